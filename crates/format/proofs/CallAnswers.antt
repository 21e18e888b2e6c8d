-- Which glyph and variation calls are refused, with which answer, and which are granted.
use Rattle.std.proofs.Common.{◌≡◌, ℕ, ◌*◌, ◌<◌, ◌≤◌, Bool, true, false, not, ◌||◌, eqb, ltb, leb, ◌⊎◌, ◌↔◌, List, [], ◌∷◌, length, sym, refl, ap, ◌∙◌, subst, inl, inr, arith}
use mathlib.Core.Option.{Option, none, some}
use Rattle.std.proofs.lemmas.Bool.{ltb-true, ltb-false, leb-true, leb-false, eqb-true, eqb-false, lt-ltb, le-ltb, le-leb, lt-leb, eq-eqb, ne_eqb, not-true, not-false, not_from_true, not_from_false, or_cases, or_parts, or_from, or_left, or_right}
use Rattle.format.specs.Account.{Delta, Variation, Glyph, Account, Given, glyph, variation, Declined, Condition, iff, first_of, axis_count_conditions, glyph_conditions, variation_conditions, most_axes, last, begun, other_count, refusal}
use Rattle.format.specs.Answers.{by_set, AxisCountRefused, many_axes, GlyphRefused, large_number, begun_before, no_glyph_cell, AsMany, NotAdded, other_tents, many_deltas, other_deltas, many_variations, few_cells, VariationRefused, no_glyph, not_added, GlyphGranted, VariationGranted}
use Rattle.format.proofs.Conditions.{none_applies, all_pass}
use Rattle.format.proofs.Firsts.{some_same, none_some}

-- Axis counts

axes_refused : (n : ℕ) (d : Declined) → first_of (axis_count_conditions n) ≡ some d → AxisCountRefused n d
axes_refused n d = by (ltb most_axes n) refl
  where
    by : (b : Bool) → ltb most_axes n ≡ b → first_of (iff b (by_set 1 none none) ∷ []) ≡ some d → AxisCountRefused n d
    by true e h = subst (AxisCountRefused n) (some_same (by_set 1 none none) d h) (many_axes (ltb-true most_axes n e))
    by false e h = none_some d h

refused_axes : (n : ℕ) (d : Declined) → AxisCountRefused n d → first_of (axis_count_conditions n) ≡ some d
refused_axes n _ (many_axes l) = rw (lt-ltb most_axes n l)

pub axis_count_refused : (n : ℕ) (d : Declined) → first_of (axis_count_conditions n) ≡ some d ↔ AxisCountRefused n d
axis_count_refused n d = (axes_refused n d, refused_axes n d)

pub axis_count_granted : (n : ℕ) → first_of (axis_count_conditions n) ≡ none ↔ n ≤ most_axes
axis_count_granted n = (λ e. ltb-false most_axes n (none_applies (axis_count_conditions n) e).0, λ l. rw (le-ltb most_axes n l))

-- Glyph calls

module _ (A : Account) (n : ℕ) where
  glyph_reason : (d : Declined) → refusal A (glyph n) ≡ some d → GlyphRefused A n d
  glyph_reason d = by (ltb 65534 n) (begun n A.glyphs) (ltb A.free.glyph 1) refl refl refl
    where
      by : (b c e : Bool) → ltb 65534 n ≡ b → begun n A.glyphs ≡ c → ltb A.free.glyph 1 ≡ e →
          first_of (iff b (by_set 2 (some n) none) ∷ iff c (by_set 3 (some n) none) ∷ iff e (by_set 9 (some n) none) ∷ []) ≡ some d → GlyphRefused A n d
      by true c e p q r h = subst (GlyphRefused A n) (some_same (by_set 2 (some n) none) d h) (large_number (ltb-true 65534 n p))
      by false true e p q r h = subst (GlyphRefused A n) (some_same (by_set 3 (some n) none) d h) (begun_before (ltb-false 65534 n p) q)
      by false false true p q r h = subst (GlyphRefused A n) (some_same (by_set 9 (some n) none) d h) (no_glyph_cell (ltb-false 65534 n p) q (ltb-true A.free.glyph 1 r))
      by false false false p q r h = none_some d h

  reason_glyph : (d : Declined) → GlyphRefused A n d → refusal A (glyph n) ≡ some d
  reason_glyph _ (large_number l) = rw (lt-ltb 65534 n l)
  reason_glyph _ (begun_before l e) = rw (le-ltb 65534 n l, e)
  reason_glyph _ (no_glyph_cell l e f) = rw (le-ltb 65534 n l, e, lt-ltb A.free.glyph 1 f)

  pub glyph_refused : (d : Declined) → refusal A (glyph n) ≡ some d ↔ GlyphRefused A n d
  glyph_refused d = (glyph_reason d, reason_glyph d)

  pub glyph_granted : refusal A (glyph n) ≡ none ↔ GlyphGranted A n
  glyph_granted = (
    λ e.
        let o = none_applies (glyph_conditions A n) e in
        record { number_fits = ltb-false 65534 n o.0; not_begun = o.1.0; cell_free = ltb-false A.free.glyph 1 o.1.1.0 },
    λ g. rw (le-ltb 65534 n g.number_fits, g.not_begun, le-ltb A.free.glyph 1 g.cell_free),
  )

-- Variation calls

last_none : (gs : List Glyph) → last gs ≡ none → gs ≡ []
last_none [] e = refl
last_none (g ∷ []) e = none_some g (sym e)
last_none (g ∷ (h ∷ gs)) e = absurd (let z : ◌≡◌ {A = ℕ} 0 1 = (let f = last_none (h ∷ gs) e in cc) in omega arith)

as_many : (vs : List Variation) (n : ℕ) → other_count vs n ≡ false → AsMany vs n
as_many [] n e = tt
as_many (v ∷ vs) n e = eqb-true (length v.deltas) n (not-false (eqb (length v.deltas) n) e)

not_as_many : (vs : List Variation) (n : ℕ) → other_count vs n ≡ true → ¬ AsMany vs n
not_as_many [] n e = λ t. absurd (let z : ◌≡◌ {A = ℕ} 0 1 = cc in omega arith)
not_as_many (v ∷ vs) n e = eqb-false (length v.deltas) n (not-true (eqb (length v.deltas) n) e)

same_count : (vs : List Variation) (n : ℕ) → AsMany vs n → other_count vs n ≡ false
same_count [] n h = refl
same_count (v ∷ vs) n h = not_from_true (eqb (length v.deltas) n) (eq-eqb (length v.deltas) n h)

count_other : (vs : List Variation) (n : ℕ) → ¬ AsMany vs n → other_count vs n ≡ true
count_other [] n h = absurd (h tt)
count_other (v ∷ vs) n h = not_from_false (eqb (length v.deltas) n) (ne_eqb (length v.deltas) n h)

module _ (A : Account) (ts : List Given) (ds : List Delta) where
  -- too few free cells of a kind, and of any
  abbrev few_variation : Bool
  few_variation = ltb A.free.variation 1

  abbrev few_axis : Bool
  few_axis = ltb A.free.axis (3 * A.axes)

  abbrev few_delta : Bool
  few_delta = ltb A.free.delta (length ds)

  abbrev few : Bool
  few = few_variation || few_axis || few_delta

  abbrev Few : Type 0
  Few = (A.free.variation < 1) ⊎ ((A.free.axis < 3 * A.axes) ⊎ (A.free.delta < length ds))

  cells_few : few ≡ true → Few
  cells_few e = outer (or_cases (few_variation || few_axis) few_delta e)
    where
      inner : (few_variation ≡ true) ⊎ (few_axis ≡ true) → Few
      inner (inl p) = inl (ltb-true A.free.variation 1 p)
      inner (inr p) = inr (inl (ltb-true A.free.axis (3 * A.axes) p))

      outer : ((few_variation || few_axis) ≡ true) ⊎ (few_delta ≡ true) → Few
      outer (inl p) = inner (or_cases few_variation few_axis p)
      outer (inr p) = inr (inr (ltb-true A.free.delta (length ds) p))

  few_of_cells : Few → few ≡ true
  few_of_cells (inl p) = or_left (few_variation || few_axis) few_delta (or_left few_variation few_axis (lt-ltb A.free.variation 1 p))
  few_of_cells (inr (inl p)) = or_left (few_variation || few_axis) few_delta (or_right few_variation few_axis (lt-ltb A.free.axis (3 * A.axes) p))
  few_of_cells (inr (inr p)) = or_right (few_variation || few_axis) few_delta (lt-ltb A.free.delta (length ds) p)

  -- to the glyph begun last
  module _ (g : Glyph) where
    abbrev named : ℕ → Declined
    named n = by_set n (some g.number) (some (length g.variations))

    tents : not (eqb (length ts) A.axes) ≡ false → length ts ≡ A.axes
    tents p = eqb-true (length ts) A.axes (not-false (eqb (length ts) A.axes) p)

    -- the number of the first condition that applies
    reason : (d : Declined) (b c e f h : Bool) →
        not (eqb (length ts) A.axes) ≡ b → ltb 32767 (length ds) ≡ c → other_count g.variations (length ds) ≡ e → leb 4095 (length g.variations) ≡ f → few ≡ h →
        first_of (iff b (named 5) ∷ iff c (named 6) ∷ iff e (named 7) ∷ iff f (named 8) ∷ iff h (named 9) ∷ []) ≡ some d → (n : ℕ) × NotAdded A g ts ds n × (named n ≡ d)
    reason d true c e f h p q r s t k = (5, other_tents (eqb-false (length ts) A.axes (not-true (eqb (length ts) A.axes) p)), some_same (named 5) d k)
    reason d false true e f h p q r s t k = (6, many_deltas (tents p) (ltb-true 32767 (length ds) q), some_same (named 6) d k)
    reason d false false true f h p q r s t k = (7, other_deltas (tents p) (ltb-false 32767 (length ds) q) (not_as_many g.variations (length ds) r), some_same (named 7) d k)
    reason d false false false true h p q r s t k =
        (8, many_variations (tents p) (ltb-false 32767 (length ds) q) (as_many g.variations (length ds) r) (leb-true 4095 (length g.variations) s), some_same (named 8) d k)
    reason d false false false false true p q r s t k =
        (9, few_cells (tents p) (ltb-false 32767 (length ds) q) (as_many g.variations (length ds) r) (leb-false 4095 (length g.variations) s) (cells_few t), some_same (named 9) d k)
    reason d false false false false false p q r s t k = none_some d k

  abbrev to : Option Glyph → List Condition
  to none = iff true (by_set 4 none none) ∷ []
  to (some g) =
      iff (not (eqb (length ts) A.axes)) (named g 5)
      ∷ iff (ltb 32767 (length ds)) (named g 6)
      ∷ iff (other_count g.variations (length ds)) (named g 7)
      ∷ iff (leb 4095 (length g.variations)) (named g 8)
      ∷ iff few (named g 9)
      ∷ []

  conditions_to : (o : Option Glyph) → last A.glyphs ≡ o → variation_conditions A ts ds ≡ to o
  conditions_to none e = rw e
  conditions_to (some g) e = rw e

  variation_reason : (d : Declined) → refusal A (variation ts ds) ≡ some d → VariationRefused A ts ds d
  variation_reason d e = by (last A.glyphs) refl (sym (ap first_of (conditions_to (last A.glyphs) refl)) ∙ e)
    where
      by : (o : Option Glyph) → last A.glyphs ≡ o → first_of (to o) ≡ some d → VariationRefused A ts ds d
      by none q h = subst (VariationRefused A ts ds) (some_same (by_set 4 none none) d h) (no_glyph (last_none A.glyphs q))
      by (some g) q h =
          let r = reason g d (not (eqb (length ts) A.axes)) (ltb 32767 (length ds)) (other_count g.variations (length ds)) (leb 4095 (length g.variations)) few refl refl refl refl refl h in
          subst (VariationRefused A ts ds) r.2 (not_added g r.0 q r.1)

  -- each reason has its number
  numbered : (g : Glyph) (n : ℕ) → NotAdded A g ts ds n → first_of (to (some g)) ≡ some (named g n)
  numbered g _ (other_tents p) = rw (ne_eqb (length ts) A.axes p)
  numbered g _ (many_deltas p q) = rw (eq-eqb (length ts) A.axes p, lt-ltb 32767 (length ds) q)
  numbered g _ (other_deltas p q r) = rw (eq-eqb (length ts) A.axes p, le-ltb 32767 (length ds) q, count_other g.variations (length ds) r)
  numbered g _ (many_variations p q r s) =
      rw (eq-eqb (length ts) A.axes p, le-ltb 32767 (length ds) q, same_count g.variations (length ds) r, le-leb 4095 (length g.variations) s)
  numbered g _ (few_cells p q r s t) =
      rw (eq-eqb (length ts) A.axes p, le-ltb 32767 (length ds) q, same_count g.variations (length ds) r, lt-leb 4095 (length g.variations) s, few_of_cells t)

  reason_variation : (d : Declined) → VariationRefused A ts ds d → refusal A (variation ts ds) ≡ some d
  reason_variation _ (no_glyph e) = ap first_of (conditions_to none (ap last e))
  reason_variation _ (not_added g n q k) = ap first_of (conditions_to (some g) q) ∙ numbered g n k

  pub variation_refused : (d : Declined) → refusal A (variation ts ds) ≡ some d ↔ VariationRefused A ts ds d
  variation_refused d = (variation_reason d, reason_variation d)

  bounds_met : refusal A (variation ts ds) ≡ none → VariationGranted A ts ds
  bounds_met e = by (last A.glyphs) refl (sym (ap first_of (conditions_to (last A.glyphs) refl)) ∙ e)
    where
      by : (o : Option Glyph) → last A.glyphs ≡ o → first_of (to o) ≡ none → VariationGranted A ts ds
      by none q h = none_some (by_set 4 none none) (sym h)
      by (some g) q h =
          let o = none_applies (to (some g)) h in
          let c = or_parts (few_variation || few_axis) few_delta o.1.1.1.1.0 in
          let k = or_parts few_variation few_axis c.0 in
          record {
            begun_last = g;
            is_last = q;
            a_tent_for_each_axis = tents g o.0;
            deltas_fit = ltb-false 32767 (length ds) o.1.0;
            deltas_as_many = as_many g.variations (length ds) o.1.1.0;
            variations_fit = leb-false 4095 (length g.variations) o.1.1.1.0;
            variation_cell_free = ltb-false A.free.variation 1 k.0;
            axis_cells_free = ltb-false A.free.axis (3 * A.axes) k.1;
            delta_cells_free = ltb-false A.free.delta (length ds) c.1;
          }

  met_bounds : VariationGranted A ts ds → refusal A (variation ts ds) ≡ none
  met_bounds v =
      let g = v.begun_last in
      ap first_of (conditions_to (some g) v.is_last)
      ∙ all_pass (to (some g)) (
        not_from_true (eqb (length ts) A.axes) (eq-eqb (length ts) A.axes v.a_tent_for_each_axis),
        (
          le-ltb 32767 (length ds) v.deltas_fit,
          (
            same_count g.variations (length ds) v.deltas_as_many,
            (
              lt-leb 4095 (length g.variations) v.variations_fit,
              (
                or_from (few_variation || few_axis) few_delta
                    (or_from few_variation few_axis (le-ltb A.free.variation 1 v.variation_cell_free) (le-ltb A.free.axis (3 * A.axes) v.axis_cells_free))
                    (le-ltb A.free.delta (length ds) v.delta_cells_free),
                tt,
              ),
            ),
          ),
        ),
      )

  pub variation_granted : refusal A (variation ts ds) ≡ none ↔ VariationGranted A ts ds
  variation_granted = (bounds_met, met_bounds)
