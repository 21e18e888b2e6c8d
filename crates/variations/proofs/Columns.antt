-- One coordinate of deltas, delta by delta.
use Rattle.std.proofs.Common.{zero, suc, ◌-◌, Some, None, ap, ◌∙◌, add-zero, arith, ◌≡◌, ℕ, ◌+◌, ◌<◌, ◌≤◌, Bool, true, false, List, [], ◌∷◌, length, get_or, drop, refl}
use Rattle.std.proofs.lemmas.Bool.{cond-true, cond-false}
use Rattle.std.proofs.lemmas.List.{drop_more, drop_all}
use Rattle.variations.specs.declared.delta.GlyphDelta.{GlyphDelta}
use Rattle.variations.specs.declared.delta.Coordinate.{Coordinate}
use Rattle.variations.specs.Deltas.{coordinate_of, is_stored, column, no_delta, NextStored}

module _ (a : Coordinate) (all : Bool) (ds : List GlyphDelta) (i : ℕ) (o : GlyphDelta) where
  pub column_keep : i < length ds → is_stored all (get_or ds i o) ≡ true → column a all (drop i ds) ≡ coordinate_of a (get_or ds i o) ∷ column a all (drop (i + 1) ds)
  column_keep h e = rw (drop_more ds i o h) (cond-true _ _ _ e)

  pub column_skip : i < length ds → is_stored all (get_or ds i o) ≡ false → column a all (drop i ds) ≡ column a all (drop (i + 1) ds)
  column_skip h e = rw (drop_more ds i o h) (cond-false _ _ _ e)

pub column_end : (a : Coordinate) (all : Bool) (ds : List GlyphDelta) (i : ℕ) → length ds ≤ i → column a all (drop i ds) ≡ []
column_end a all ds i h = rw (drop_all i ds h) refl

-- none before a place is stored
module _ (a : Coordinate) (all : Bool) (ds : List GlyphDelta) (p : ℕ) where
  column_to : (n : ℕ) → n ≤ length ds - p → ((k : ℕ) → p ≤ k → k < p + n → is_stored all (get_or ds k no_delta) ≡ false) → column a all (drop p ds) ≡ column a all (drop (p + n) ds)
  column_to zero h none = rw add-zero refl
  column_to (suc n) h none =
      column_to n (omega arith) (λ k i l. none k i (omega arith))
      ∙ column_skip a all ds (p + n) no_delta (omega arith) (none (p + n) (omega arith) (omega arith))
      ∙ ap (λ m. column a all (drop m ds)) (omega arith)

  pub column_found : (at : ℕ) → NextStored all ds p (Some at) → column a all (drop p ds) ≡ coordinate_of a (get_or ds at no_delta) ∷ column a all (drop (at + 1) ds)
  column_found at f =
      let to : p + (at - p) ≡ at = omega (arith, f.0) in
      rw to at (column_to (at - p) (omega (arith, f.1)) (λ k h i. f.3 k h (omega arith))) ∙ column_keep a all ds at no_delta f.1 f.2

  pub column_none : NextStored all ds p None → column a all (drop p ds) ≡ []
  column_none none =
      column_to (length ds - p) (omega arith) (λ k h i. none k h (omega arith))
      ∙ column_end a all ds (p + (length ds - p)) (omega arith)
