-- Gaps between required points, point by point.
use Rattle.std.proofs.Common.{◌≡◌, ℕ, zero, suc, ◌+◌, ◌-◌, ◌<◌, ◌≤◌, true, false, List, [], ◌∷◌, length, get_or, drop, Some, None, refl, ap, ◌∙◌, add-one, add-zero, arith}
use Rattle.std.proofs.lemmas.Bool.{cond-true, cond-false}
use Rattle.std.proofs.lemmas.List.{drop_more, drop_all}
use Rattle.format.specs.Packed.{gaps_after}
use Rattle.format.specs.Glyphs.{required_from}
use Rattle.variations.specs.declared.delta.GlyphDelta.{GlyphDelta}
use Rattle.variations.specs.Deltas.{deltas_of, no_delta, NextStored}
use Rattle.variations.specs.Gaps.{gaps_from}

module _ (ds : List GlyphDelta) (i : ℕ) (o : GlyphDelta) where
  pub points_keep : i < length ds → (get_or ds i o).required ≡ true → required_from i (deltas_of (drop i ds)) ≡ i ∷ required_from (i + 1) (deltas_of (drop (i + 1) ds))
  points_keep h e = rw (drop_more ds i o h) (cond-true _ _ _ e ∙ rw add-one refl)

  pub points_skip : i < length ds → (get_or ds i o).required ≡ false → required_from i (deltas_of (drop i ds)) ≡ required_from (i + 1) (deltas_of (drop (i + 1) ds))
  points_skip h e = rw (drop_more ds i o h) (cond-false _ _ _ e ∙ rw add-one refl)

pub points_end : (ds : List GlyphDelta) (i : ℕ) → length ds ≤ i → required_from i (deltas_of (drop i ds)) ≡ []
points_end ds i h = rw (drop_all i ds h) refl

-- none before a place is required
module _ (ds : List GlyphDelta) (p : ℕ) where
  points_to : (n : ℕ) → n ≤ length ds - p → ((k : ℕ) → p ≤ k → k < p + n → (get_or ds k no_delta).required ≡ false) →
      required_from p (deltas_of (drop p ds)) ≡ required_from (p + n) (deltas_of (drop (p + n) ds))
  points_to zero h none = rw add-zero refl
  points_to (suc n) h none =
      points_to n (omega arith) (λ k i l. none k i (omega arith))
      ∙ points_skip ds (p + n) no_delta (omega arith) (none (p + n) (omega arith) (omega arith))
      ∙ ap (λ m. required_from m (deltas_of (drop m ds))) (omega arith)

  pub gap_found : (at : ℕ) → NextStored false ds p (Some at) → gaps_from ds p ≡ (at - (p - 1)) ∷ gaps_from ds (at + 1)
  gap_found at f =
      let to : p + (at - p) ≡ at = omega (arith, f.0) in
      let past : at ≡ at + 1 - 1 = omega arith in
      ap (gaps_after (p - 1)) (rw to at (points_to (at - p) (omega (arith, f.1)) (λ k h i. f.3 k h (omega arith))) ∙ points_keep ds at no_delta f.1 f.2)
      ∙ ap (λ b. (at - (p - 1)) ∷ gaps_after b (required_from (at + 1) (deltas_of (drop (at + 1) ds)))) past

  pub gap_none : NextStored false ds p None → gaps_from ds p ≡ []
  gap_none none =
      ap (gaps_after (p - 1))
      (points_to (length ds - p) (omega arith) (λ k h i. none k h (omega arith))
      ∙ points_end ds (p + (length ds - p)) (omega arith))
