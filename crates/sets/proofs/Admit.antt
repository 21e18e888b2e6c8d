-- What the tests of a variation answer.
use Rattle.std.proofs.Common.{◌≡◌, ℕ, ◌*◌, ◌<◌, ◌≤◌, Bool, true, false, not, ◌||◌, eqb, ltb, leb, List, [], ◌∷◌, ◌++◌, map, length, sym, refl, ap, ◌∙◌}
use mathlib.Core.Option.{Option, none, some}
use Rattle.std.proofs.lemmas.List.{length-map}
use Rattle.std.proofs.lemmas.Bool.{eq-eqb, ne_eqb, lt-ltb, le-ltb, le-leb, lt-leb, not_from_true, not_from_false}
use Rattle.format.specs.Account.{Glyph, Cells, Delta, Given, Declined, declined, iff, first_of, refusal, variation, other_count}
use Rattle.variations.specs.declared.delta.GlyphDelta.{GlyphDelta}
use Rattle.variations.specs.Deltas.{delta_of, deltas_of}
use Rattle.sets.specs.declared.cells.GlyphCell.{GlyphCell}
use Rattle.tents.specs.declared.tent.Tent.{Tent}
use Rattle.tents.specs.Tents.{given}
use Rattle.sets.specs.Given.{variation_call}
use Rattle.sets.specs.Layout.{Stores, account_in, dealt, groups}
use Rattle.sets.specs.Sound.{Sound}
use Rattle.sets.specs.Writing.{last_cell, front, last_variations}
use Rattle.sets.proofs.Deal.{glyphs_are, last_length}

-- the five conditions, with their tests
abbrev pub five : (tents deltas differs variations lacks : Bool) (g v : ℕ) → Option Declined
five tents deltas differs variations lacks g v =
    let at : ℕ → Declined = λ n. declined n (some g) (some v) none in
    first_of (iff tents (at 5) ∷ iff deltas (at 6) ∷ iff differs (at 7) ∷ iff variations (at 8) ∷ iff lacks (at 9) ∷ [])

abbrev tested : ℕ → Cells → Glyph → ℕ → ℕ → Option Declined
tested a f g n m =
    five (not (eqb n a)) (ltb 32767 m) (other_count g.variations m) (leb 4095 (length g.variations))
    (ltb f.variation 1 || ltb f.axis (3 * a) || ltb f.delta m) g.number (length g.variations)

refusal_at : (a : ℕ) (f : Cells) (gs : List Glyph) (g : Glyph) (ts : List Given) (ds : List Delta) →
    refusal (record { axes = a; free = f; glyphs = gs ++ (g ∷ []) }) (variation ts ds) ≡ tested a f g (length ts) (length ds)
refusal_at a f [] g ts ds = refl
refusal_at a f (h ∷ []) g ts ds = refl
refusal_at a f (h ∷ (k ∷ gs)) g ts ds = refusal_at a f (k ∷ gs) g ts ds

module _ (s : Stores) (h : Sound s) (any : 0 < s.begun) (ts : List Tent) (ds : List GlyphDelta) where
  refusal_is : refusal (account_in s) (variation_call ts ds)
      ≡ five (not (eqb (length ts) s.axes)) (ltb 32767 (length ds)) (other_count (last_variations s) (length ds)) (leb 4095 (last_cell s).variations)
      (ltb (account_in s).free.variation 1 || ltb (account_in s).free.axis (3 * s.axes) || ltb (account_in s).free.delta (length ds))
      (last_cell s).number (last_cell s).variations
  refusal_is =
      ap (λ (gs : List Glyph). refusal (record { axes = s.axes; free = (account_in s).free; glyphs = gs }) (variation_call ts ds)) (glyphs_are s h any)
      ∙ refusal_at s.axes (account_in s).free (groups (front s) (dealt s)) (record { number = (last_cell s).number; variations = last_variations s }) (map given ts) (deltas_of ds)
      ∙ rw (length-map ts given, length-map ds delta_of, last_length s h any) refl

  module _ (l : GlyphCell) (is : l ≡ last_cell s) where
    abbrev differs : Bool
    differs = other_count (last_variations s) (length ds)

    abbrev lacks : Bool
    lacks = ltb (account_in s).free.variation 1 || ltb (account_in s).free.axis (3 * s.axes) || ltb (account_in s).free.delta (length ds)

    abbrev wanted : Option Declined
    wanted = refusal (account_in s) (variation_call ts ds)

    refusal_of : wanted ≡ five (not (eqb (length ts) s.axes)) (ltb 32767 (length ds)) differs (leb 4095 l.variations) lacks l.number l.variations
    refusal_of = rw is refusal_is

    abbrev at : ℕ → Option Declined
    at n = some (declined n (some l.number) (some l.variations) none)

    tents_pass : length ts ≡ s.axes → not (eqb (length ts) s.axes) ≡ false
    tents_pass e = not_from_true _ (eq-eqb _ _ e)

    deltas_pass : length ds ≤ 32767 → ltb 32767 (length ds) ≡ false
    deltas_pass h6 = le-ltb _ _ h6

    pub wrong_tents : (length ts ≡ s.axes → ⊥) → at 5 ≡ wanted
    wrong_tents e = sym (refusal_of ∙ rw (not_from_false _ (ne_eqb _ _ e)) refl)

    pub many_deltas : length ts ≡ s.axes → 32767 < length ds → at 6 ≡ wanted
    many_deltas e5 e = sym (refusal_of ∙ rw (tents_pass e5, lt-ltb _ _ e) refl)

    pub unlike : length ts ≡ s.axes → length ds ≤ 32767 → true ≡ differs → at 7 ≡ wanted
    unlike e5 e6 e = sym (refusal_of ∙ rw (tents_pass e5, deltas_pass e6, ← e) refl)

    pub many_variations : length ts ≡ s.axes → length ds ≤ 32767 → false ≡ differs → 4095 ≤ l.variations → at 8 ≡ wanted
    many_variations e5 e6 e7 e = sym (refusal_of ∙ rw (tents_pass e5, deltas_pass e6, ← e7, le-leb _ _ e) refl)

    pub no_room : length ts ≡ s.axes → length ds ≤ 32767 → false ≡ differs → l.variations < 4095 → true ≡ lacks → at 9 ≡ wanted
    no_room e5 e6 e7 e8 e = sym (refusal_of ∙ rw (tents_pass e5, deltas_pass e6, ← e7, lt-leb _ _ e8, ← e) refl)

    pub passes : length ts ≡ s.axes → length ds ≤ 32767 → false ≡ differs → l.variations < 4095 → false ≡ lacks → none ≡ wanted
    passes e5 e6 e7 e8 e = sym (refusal_of ∙ rw (tents_pass e5, deltas_pass e6, ← e7, lt-leb _ _ e8, ← e) refl)
