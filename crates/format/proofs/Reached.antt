-- What every reachable account keeps.
use Rattle.std.proofs.Common.{◌≡◌, ℕ, ◌≤◌, Bool, true, false, cond, not, eqb, ltb, leb, List, [], ◌∷◌, ◌++◌, map, length, ℤ, pos, sym, refl, ◌∙◌, subst, arith, length-append}
use mathlib.Core.Option.{Option, none, some}
use lib.Signed.{le_z}
use lib.ListN.{length-map}
use Rattle.std.specs.List.{AllByRecursion}
use Rattle.std.proofs.lemmas.Bool.{or_parts, eqb-true, eqb-false, not-false, ltb-false, leb-false}
use Rattle.std.proofs.ByRecursion.{All-push}
use Rattle.format.specs.Bytes.{Short}
use Rattle.format.specs.Account.{Delta, Variation, Glyph, Cells, Account, Given, Call, glyph, variation, compile, Declined, first_of, least, most, tent, begun, glyph_conditions, variation_conditions, other_count, begin, add, variation_of, refusal, accepted, settled, next, after, opened, ShortGiven, ShortTent, ShortVariation, ShortSet, ShortCall}
use Rattle.format.specs.Promise.{glyphs_after, DeltasNumber}
use Rattle.format.proofs.Conditions.{none_applies}
use Rattle.format.proofs.Accepted.{glyphs_are}

pub record SoundVariation (a : ℕ) (v : Variation) : Type 0 where
  pub tents_number : length v.tents ≡ a
  pub few_deltas : length v.deltas ≤ 32767

-- as many deltas as the first
abbrev pub Alike : List Variation → Type 0
Alike vs = (p : ℕ) → DeltasNumber vs p → AllByRecursion (λ v. length v.deltas ≡ p) vs

pub record SoundGlyph (a : ℕ) (g : Glyph) : Type 0 where
  pub number_fits : g.number ≤ 65534
  pub few_variations : length g.variations ≤ 4095
  pub each_variation : AllByRecursion (SoundVariation a) g.variations
  pub alike : Alike g.variations

-- the numbers are distinct
abbrev pub Apart : List Glyph → Type 0
Apart [] = Unit {0}
Apart (g ∷ gs) = AllByRecursion (λ h. g.number ≡ h.number → ⊥) gs × Apart gs

pub record Sound (a : ℕ) (gs : List Glyph) : Type 0 where
  pub each_glyph : AllByRecursion (SoundGlyph a) gs
  pub numbers_apart : Apart gs

-- A variation call

alike_more : (vs : List Variation) (v : Variation) → other_count vs (length v.deltas) ≡ false → Alike vs → Alike (vs ++ (v ∷ []))
alike_more [] v e h p n = (sym n, tt)
alike_more (w ∷ vs) v e h p n =
    All-push (λ (u : Variation). length u.deltas ≡ p) (w ∷ vs) v (h p n)
    (sym (eqb-true (length w.deltas) (length v.deltas) (not-false (eqb (length w.deltas) (length v.deltas)) e)) ∙ sym n)

-- the glyph begun last, with one variation more
more : (a : ℕ) (g : Glyph) (ts : List Given) (ds : List Delta) →
    not (eqb (length ts) a) ≡ false → ltb 32767 (length ds) ≡ false → other_count g.variations (length ds) ≡ false → leb 4095 (length g.variations) ≡ false →
    SoundGlyph a g → SoundGlyph a (record { number = g.number; variations = g.variations ++ (variation_of ts ds ∷ []) })
more a g ts ds e5 e6 e7 e8 s =
    record {
      number_fits = s.number_fits;
      few_variations = let k = leb-false 4095 (length g.variations) e8 in omega (arith, k, length-append g.variations (variation_of ts ds ∷ []));
      each_variation = All-push (SoundVariation a) g.variations (variation_of ts ds) s.each_variation new;
      alike = alike_more g.variations (variation_of ts ds) e7 s.alike;
    }
  where
    new : SoundVariation a (variation_of ts ds)
    new =
        record {
          tents_number = length-map ts tent ∙ eqb-true (length ts) a (not-false (eqb (length ts) a) e5);
          few_deltas = ltb-false 32767 (length ds) e6;
        }

abbrev with_glyphs : ℕ → Cells → List Glyph → Account
with_glyphs a f gs = record { axes = a; free = f; glyphs = gs }

each_more : (a : ℕ) (f : Cells) (ts : List Given) (ds : List Delta) (gs : List Glyph) →
    first_of (variation_conditions (with_glyphs a f gs) ts ds) ≡ none → AllByRecursion (SoundGlyph a) gs → AllByRecursion (SoundGlyph a) (add (variation_of ts ds) gs)
each_more a f ts ds [] e s = tt
each_more a f ts ds (g ∷ []) e s =
    let o = none_applies (variation_conditions (with_glyphs a f (g ∷ [])) ts ds) e in
    (more a g ts ds o.0 o.1.0 o.1.1.0 o.1.1.1.0 s.0, tt)
each_more a f ts ds (g ∷ (h ∷ gs)) e s = (s.0, each_more a f ts ds (h ∷ gs) e s.1)

-- numbers stay as they are
other_more : (P : ℕ → Type 0) (v : Variation) (gs : List Glyph) → AllByRecursion (λ h. P h.number) gs → AllByRecursion (λ h. P h.number) (add v gs)
other_more P v [] h = tt
other_more P v (g ∷ []) h = h
other_more P v (g ∷ (k ∷ gs)) h = (h.0, other_more P v (k ∷ gs) h.1)

apart_more : (v : Variation) (gs : List Glyph) → Apart gs → Apart (add v gs)
apart_more v [] h = tt
apart_more v (g ∷ []) h = h
apart_more v (g ∷ (k ∷ gs)) h = (other_more (λ (n : ℕ). g.number ≡ n → ⊥) v (k ∷ gs) h.0, apart_more v (k ∷ gs) h.1)

-- A glyph call

apart_begin : (n : ℕ) (gs : List Glyph) → begun n gs ≡ false → Apart gs → Apart (begin n gs)
apart_begin n [] e h = (tt, tt)
apart_begin n (g ∷ gs) e h =
    let o = or_parts (eqb g.number n) (begun n gs) e in (
      All-push (λ (k : Glyph). g.number ≡ k.number → ⊥) gs (record { number = n; variations = [] }) h.0 (eqb-false g.number n o.0),
      apart_begin n gs o.1 h.1,
    )

fresh : (a n : ℕ) → n ≤ 65534 → SoundGlyph a (record { number = n; variations = [] })
fresh a n l = record { number_fits = l; few_variations = omega arith; each_variation = tt; alike = λ p h. tt }

-- One call, and all

pub sound_next : (A : Account) (c : Call) → Sound A.axes A.glyphs → Sound A.axes (next A c).glyphs
sound_next A (glyph n) s = by (refusal A (glyph n)) refl
  where
    by : (o : Option Declined) → refusal A (glyph n) ≡ o → Sound A.axes (settled o (accepted A (glyph n)) A).glyphs
    by none e =
        let o = none_applies (glyph_conditions A n) e in
        record {
          each_glyph = All-push (SoundGlyph A.axes) A.glyphs (record { number = n; variations = [] }) s.each_glyph (fresh A.axes n (ltb-false 65534 n o.0));
          numbers_apart = apart_begin n A.glyphs o.1.0 s.numbers_apart;
        }
    by (some d) e = s
sound_next A (variation ts ds) s = by (refusal A (variation ts ds)) refl
  where
    by : (o : Option Declined) → refusal A (variation ts ds) ≡ o → Sound A.axes (settled o (accepted A (variation ts ds)) A).glyphs
    by none e =
        record {
          each_glyph = each_more A.axes A.free ts ds A.glyphs e s.each_glyph;
          numbers_apart = apart_more (variation_of ts ds) A.glyphs s.numbers_apart;
        }
    by (some d) e = s
sound_next A (compile cells sink) s = s

pub axes_next : (A : Account) (c : Call) → (next A c).axes ≡ A.axes
axes_next A c = by c (refusal A c)
  where
    by : (c : Call) (o : Option Declined) → (settled o (accepted A c) A).axes ≡ A.axes
    by (glyph n) none = refl
    by (variation ts ds) none = refl
    by (compile cells sink) none = refl
    by c (some d) = refl

pub axes_after : (A : Account) (cs : List Call) → (after A cs).axes ≡ A.axes
axes_after A [] = refl
axes_after A (c ∷ cs) = axes_after (next A c) cs ∙ axes_next A c

pub sound_after : (A : Account) (cs : List Call) → Sound A.axes A.glyphs → Sound A.axes (after A cs).glyphs
sound_after A [] s = s
sound_after A (c ∷ cs) s =
    subst (λ (a : ℕ). Sound a (after (next A c) cs).glyphs) (axes_next A c)
    (sound_after (next A c) cs (subst (λ (a : ℕ). Sound a (next A c).glyphs) (sym (axes_next A c)) (sound_next A c s)))

-- what every reachable account keeps
pub reached_axes : (a : ℕ) (free : Cells) (calls : List Call) → (after (opened a free) calls).axes ≡ a
reached_axes a free calls = axes_after (opened a free) calls

pub reached : (a : ℕ) (free : Cells) (calls : List Call) → Sound a (after (opened a free) calls).glyphs
reached a free calls = sound_after (opened a free) calls (record { each_glyph = tt; numbers_apart = tt })

pub reached_glyphs : (a : ℕ) (free : Cells) (calls : List Call) → Sound a (glyphs_after a free calls)
reached_glyphs a free calls = subst (Sound a) (glyphs_are a free calls) (reached a free calls)

-- The values of a set are 16-bit ones where those handed in are

short_least : (a b : ℤ) → Short a → Short b → Short (least a b)
short_least a b h k = by (le_z a b)
  where
    by : (t : Bool) → Short (cond t a b)
    by true = h
    by false = k

short_most : (a b : ℤ) → Short a → Short b → Short (most a b)
short_most a b h k = by (le_z a b)
  where
    by : (t : Bool) → Short (cond t b a)
    by true = k
    by false = h

short_tent : (g : Given) → ShortGiven g → ShortTent (tent g)
short_tent g h = by g.peak g.bounds h
  where
    by : (p : ℤ) (o : Option (ℤ × ℤ)) → ShortGiven (record { peak = p; bounds = o }) → ShortTent (tent (record { peak = p; bounds = o }))
    by p none h = (h.0, short_least p (pos 0) h.0 (omega arith), short_most p (pos 0) h.0 (omega arith))
    by p (some b) h = (h.0, h.1.0, h.1.1)

short_tents_of : (ts : List Given) → AllByRecursion ShortGiven ts → AllByRecursion ShortTent (map tent ts)
short_tents_of [] h = tt
short_tents_of (t ∷ ts) h = (short_tent t h.0, short_tents_of ts h.1)

short_more : (v : Variation) (gs : List Glyph) → ShortVariation v → ShortSet gs → ShortSet (add v gs)
short_more v [] k h = tt
short_more v (g ∷ []) k h = (All-push ShortVariation g.variations v h.0 k, tt)
short_more v (g ∷ (f ∷ gs)) k h = (h.0, short_more v (f ∷ gs) k h.1)

short_accepted : (A : Account) (c : Call) → ShortCall c → ShortSet A.glyphs → ShortSet (accepted A c).glyphs
short_accepted A (glyph n) k h = All-push (λ (g : Glyph). AllByRecursion ShortVariation g.variations) A.glyphs (record { number = n; variations = [] }) h tt
short_accepted A (variation ts ds) k h = short_more (variation_of ts ds) A.glyphs (short_tents_of ts k.0, k.1) h
short_accepted A (compile cells sink) k h = h

pub short_next : (A : Account) (c : Call) → ShortCall c → ShortSet A.glyphs → ShortSet (next A c).glyphs
short_next A c k h = by (refusal A c)
  where
    by : (o : Option Declined) → ShortSet (settled o (accepted A c) A).glyphs
    by none = short_accepted A c k h
    by (some d) = h

short_after : (A : Account) (cs : List Call) → AllByRecursion ShortCall cs → ShortSet A.glyphs → ShortSet (after A cs).glyphs
short_after A [] k h = h
short_after A (c ∷ cs) k h = short_after (next A c) cs k.1 (short_next A c k.0 h)

pub short_reached : (a : ℕ) (free : Cells) (calls : List Call) → AllByRecursion ShortCall calls → ShortSet (glyphs_after a free calls)
short_reached a free calls k = subst ShortSet (glyphs_are a free calls) (short_after (opened a free) calls k tt)
