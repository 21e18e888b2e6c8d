-- A shared peak stands at its index.
use Rattle.std.proofs.Common.{◌≡◌, ℕ, zero, suc, ◌+◌, ◌<◌, ◌≤◌, Bool, true, false, cond, ◌&&◌, ltb, List, [], ◌∷◌, map, length, get_or, ℤ, sym, refl, ap, ◌∙◌, subst, arith}
use mathlib.Core.Option.{none, some}
use lib.ListN.{length-map}
use Rattle.std.specs.List.{AllByRecursion}
use Rattle.std.proofs.lemmas.Bool.{and_parts, ltb-true, eq-eqb, true≢false}
use Rattle.std.proofs.ByRecursion.{All-append, All-get_or}
use Rattle.format.specs.Bytes.{Short, same_int, same_list}
use Rattle.format.specs.Account.{Tent, Variation, Glyph, ShortTent, ShortVariation, ShortSet}
use Rattle.format.specs.Ranked.{count_below, first_below, is_first, ranked}
use Rattle.format.specs.Glyphs.{peak, peaks_seen, same_peak, peak_score, place_of_peak, peak_rank, shared_index, shared_count, shared_peaks}
use Rattle.format.specs.Promise.{In, here, there}
use Rattle.format.proofs.Ranks.{ranked_rank, rank_below, ranked_below}
use Rattle.format.proofs.Counts.{count_more, first_least}
use Rattle.format.proofs.Reached.{SoundVariation, SoundGlyph, Sound}
use Rattle.format.proofs.Lists.{length_listed, get_or_listed, in_left, in_right, in_map, all_listed}
use Rattle.format.proofs.Alike.{same_values, same_lists, same_itself}

-- Where a peak is first seen

pub record Placed (ps : List (List ℤ)) (p : List ℤ) (n at : ℕ) : Type 0 where
  pub place : ℕ
  pub is : at ≡ n + place
  pub inside : place < length ps
  pub holds : get_or ps place [] ≡ p
  pub no_sooner : (j : ℕ) → j < place → same_list same_int (get_or ps j []) p ≡ false

inner : (p q : List ℤ) (qs : List (List ℤ)) → In p (q ∷ qs) → same_list same_int q p ≡ false → In p qs
inner p _ _ here e = absurd (true≢false (sym (same_itself p) ∙ e))
inner p _ _ (there k) e = k

placed : (ps : List (List ℤ)) (p : List ℤ) (n : ℕ) → In p ps → Placed ps p n (place_of_peak ps p n)
placed [] p n i = elim i [ ]
placed (q ∷ qs) p n i = by (same_list same_int q p) refl i (λ k. placed qs p (suc n) k)
  where
    sooner : (o : Placed qs p (suc n) (place_of_peak qs p (suc n))) → same_list same_int q p ≡ false → (j : ℕ) → j < suc o.place → same_list same_int (get_or (q ∷ qs) j []) p ≡ false
    sooner o e zero l = e
    sooner o e (suc j) l = o.no_sooner j (omega arith)

    by : (b : Bool) → same_list same_int q p ≡ b → In p (q ∷ qs) → (In p qs → Placed qs p (suc n) (place_of_peak qs p (suc n))) →
        Placed (q ∷ qs) p n (cond b n (place_of_peak qs p (suc n)))
    by true e i f = record { place = 0; is = omega arith; inside = omega arith; holds = same_lists same_int same_values q p e; no_sooner = λ j l. absurd (omega arith) }
    by false e i f =
        let o = f (inner p q qs i e) in
        record { place = suc o.place; is = omega (arith, o.is); inside = omega (arith, o.inside); holds = o.holds; no_sooner = sooner o e }

-- it is the first of its class
placed_first : (ps : List (List ℤ)) (p : List ℤ) (at : ℕ) → Placed ps p 0 at → (at < length ps) × (get_or ps at [] ≡ p) × (is_first (length ps) (same_peak ps) at ≡ true)
placed_first ps p at o =
    let s : o.place ≡ at = omega (arith, o.is) in
    let l : at < length ps = omega (arith, o.inside) in
    let e : get_or ps at [] ≡ p = subst (λ (k : ℕ). get_or ps k [] ≡ p) s o.holds in
    let f : first_below (length ps) (λ j. same_peak ps j at) ≡ at =
    first_least (length ps) (λ j. same_peak ps j at) at l (same_itself (get_or ps at []))
    (λ j k. subst (λ (q : List ℤ). same_list same_int (get_or ps j []) q ≡ false) (sym e) (o.no_sooner j (omega arith))) in
    (l, e, eq-eqb (first_below (length ps) (λ j. same_peak ps j at)) at f)

-- The shared peaks

pub length_shared_peaks : (ps : List (List ℤ)) → length (shared_peaks ps) ≡ shared_count ps
length_shared_peaks ps = length_listed 0 (shared_count ps) (λ r. get_or ps (ranked (length ps) (same_peak ps) (peak_score ps) r) [])

pub few_shared_peaks : (ps : List (List ℤ)) → length (shared_peaks ps) ≤ 4095
few_shared_peaks ps = let e = length_shared_peaks ps in omega arith

index_of : (b : Bool) (r i : ℕ) → cond b (some r) none ≡ some i → (b ≡ true) × (r ≡ i)
index_of true r i e = (refl, (let g : r ≡ i = cc in g))
index_of false r i e = absurd (let z : ◌≡◌ {A = ℕ} 0 1 = cc in omega arith)

-- a shared peak stands at its index
pub shared_at : (ps : List (List ℤ)) (p : List ℤ) (i : ℕ) → In p ps → shared_index ps p ≡ some i → (i < length (shared_peaks ps)) × (get_or (shared_peaks ps) i [] ≡ p)
shared_at ps p i k e =
    let n = length ps in
    let c = place_of_peak ps p 0 in
    let r = peak_rank ps c in
    let x = index_of (ltb 1 (peak_score ps c) && ltb r 4095) r i e in
    let t = and_parts (ltb 1 (peak_score ps c)) (ltb r 4095) x.0 in
    let o = placed_first ps p c (placed ps p 0 k) in
    let below : r < count_below n (λ i. is_first n (same_peak ps) i && ltb 1 (peak_score ps i)) =
    rank_below n (same_peak ps) (peak_score ps) 1 c o.0 o.2 (ltb-true 1 (peak_score ps c) t.0) in
    let few : r < 4095 = ltb-true r 4095 t.1 in
    let lr : r < shared_count ps = omega (arith, below, few) in
    let li : i < shared_count ps = omega (arith, lr, x.1) in
    let g = get_or_listed 0 (shared_count ps) (λ r. get_or ps (ranked n (same_peak ps) (peak_score ps) r) []) i i [] (omega arith) li in
    let back : ranked n (same_peak ps) (peak_score ps) i ≡ c =
    subst (λ (m : ℕ). ranked n (same_peak ps) (peak_score ps) m ≡ c) x.1 (ranked_rank n (same_peak ps) (peak_score ps) c o.0 o.2) in (
      omega (arith, li, length_shared_peaks ps),
      g ∙ (ap (λ (m : ℕ). get_or ps m []) back ∙ o.1),
    )

-- what all peaks keep, the shared ones keep
pub shared_keep : (P : List ℤ → Type 0) (ps : List (List ℤ)) → AllByRecursion P ps → AllByRecursion P (shared_peaks ps)
shared_keep P ps h =
    all_listed P 0 (shared_count ps) (λ r. get_or ps (ranked (length ps) (same_peak ps) (peak_score ps) r) [])
    (λ r l. All-get_or P ps (ranked (length ps) (same_peak ps) (peak_score ps) r) [] (ranked_below (length ps) (same_peak ps) (peak_score ps) r (fewer r l)) h)
  where
    fewer : (r : ℕ) → r < 0 + shared_count ps → r < count_below (length ps) (is_first (length ps) (same_peak ps))
    fewer r l =
        let m = count_more (length ps) (λ i. is_first (length ps) (same_peak ps) i && ltb 1 (peak_score ps i)) (is_first (length ps) (same_peak ps))
        (λ i k e. (and_parts (is_first (length ps) (same_peak ps) i) (ltb 1 (peak_score ps i)) e).0) in
        omega arith

-- The peaks of a sound set

pub record SoundPeak (a : ℕ) (p : List ℤ) : Type 0 where
  pub values_number : length p ≡ a
  pub short_values : AllByRecursion Short p

short_peak : (ts : List Tent) → AllByRecursion ShortTent ts → AllByRecursion Short (map (λ t. t.peak) ts)
short_peak [] h = tt
short_peak (t ∷ ts) h = (h.0.0, short_peak ts h.1)

pub sound_peak : (a : ℕ) (v : Variation) → SoundVariation a v → ShortVariation v → SoundPeak a (peak v)
sound_peak a v s k = record { values_number = length-map v.tents (λ t. t.peak) ∙ s.tents_number; short_values = short_peak v.tents k.0 }

sound_peaks_of : (a : ℕ) (vs : List Variation) → AllByRecursion (SoundVariation a) vs → AllByRecursion ShortVariation vs → AllByRecursion (SoundPeak a) (map peak vs)
sound_peaks_of a [] h k = tt
sound_peaks_of a (v ∷ vs) h k = (sound_peak a v h.0 k.0, sound_peaks_of a vs h.1 k.1)

sound_each : (a : ℕ) (gs : List Glyph) → AllByRecursion (SoundGlyph a) gs → ShortSet gs → AllByRecursion (SoundPeak a) (peaks_seen gs)
sound_each a [] h k = tt
sound_each a (g ∷ gs) h k = All-append (SoundPeak a) (map peak g.variations) (peaks_seen gs) (sound_peaks_of a g.variations h.0.each_variation k.0) (sound_each a gs h.1 k.1)

pub sound_peaks : (a : ℕ) (gs : List Glyph) → Sound a gs → ShortSet gs → AllByRecursion (SoundPeak a) (peaks_seen gs)
sound_peaks a gs s k = sound_each a gs s.each_glyph k

pub sound_shared_peaks : (a : ℕ) (gs : List Glyph) → Sound a gs → ShortSet gs → AllByRecursion (SoundPeak a) (shared_peaks (peaks_seen gs))
sound_shared_peaks a gs s k = shared_keep (SoundPeak a) (peaks_seen gs) (sound_peaks a gs s k)

-- the peak of a variation of a glyph is seen
pub peak_seen : (v : Variation) (g : Glyph) (gs : List Glyph) → In g gs → In v g.variations → In (peak v) (peaks_seen gs)
peak_seen v g _ (here {xs = gs}) k = in_left (peak v) (peaks_seen gs) (map peak g.variations) (in_map peak v g.variations k)
peak_seen v g _ (there {y = h} {xs = gs} i) k = in_right (peak v) (map peak h.variations) (peaks_seen gs) (peak_seen v g gs i k)

-- the index of a variation's peak finds it
pub index_finds : (v : Variation) (g : Glyph) (gs : List Glyph) → In g gs → In v g.variations → (i : ℕ) → shared_index (peaks_seen gs) (peak v) ≡ some i →
    (i < length (shared_peaks (peaks_seen gs))) × (get_or (shared_peaks (peaks_seen gs)) i [] ≡ peak v)
index_finds v g gs ig iv i e = shared_at (peaks_seen gs) (peak v) i (peak_seen v g gs ig iv) e

pub index_small : (v : Variation) (g : Glyph) (gs : List Glyph) → In g gs → In v g.variations → (i : ℕ) → shared_index (peaks_seen gs) (peak v) ≡ some i → i < 4095
index_small v g gs ig iv i e = let l = (index_finds v g gs ig iv i e).0 in omega (arith, l, few_shared_peaks (peaks_seen gs))
