-- Which points a variation stores, by the number of the required ones and by size.
use Rattle.std.proofs.Common.{◌≡◌, ℕ, suc, ◌+◌, ◌<◌, ◌≤◌, Bool, true, false, cond, not, ◌&&◌, List, [], ◌∷◌, ◌++◌, map, length, ℤ, sym, refl, ap, ◌∙◌, arith, length-append}
use Rattle.std.proofs.lemmas.Bool.{cond-true, cond-false, le-leb, lt-leb, or_left, or_right, or_from}
use Rattle.format.specs.Account.{Delta}
use Rattle.format.specs.Packed.{every, only, packed_points, packed_deltas}
use Rattle.format.specs.Glyphs.{required_from, required_deltas, xs_of, coordinates, size_all, size_required, none_required, all_required, stores_all}
use Rattle.variations.specs.declared.delta.GlyphDelta.{GlyphDelta}
use Rattle.variations.specs.declared.delta.Coordinate.{Coordinate}
use Rattle.variations.specs.declared.delta.Coordinate.TheVariants.{X, Y}
use Rattle.variations.specs.Deltas.{delta_of, deltas_of, coordinate_of, column}
use Rattle.tuples.specs.Choice.{kept_deltas, StoredAs}

-- one coordinate of a delta of the table
abbrev side : Coordinate → Delta → ℤ
side X d = d.x
side Y d = d.y

same_side : (a : Coordinate) (d : GlyphDelta) → coordinate_of a d ≡ side a (delta_of d)
same_side X d = refl
same_side Y d = refl

-- the column lists one coordinate of the deltas kept
column_is : (a : Coordinate) (b : Bool) (ds : List GlyphDelta) → column a b ds ≡ map (side a) (kept_deltas b (deltas_of ds))
column_is a true [] = refl
column_is a true (d ∷ ds) = let e = same_side a d in let i = column_is a true ds in cc
column_is a false [] = refl
column_is a false (d ∷ ds) = by d.required (column_is a false ds)
  where
    by : (b : Bool) → column a false ds ≡ map (side a) (required_deltas (deltas_of ds)) →
        cond b (coordinate_of a d ∷ column a false ds) (column a false ds) ≡ map (side a) (cond b (delta_of d ∷ required_deltas (deltas_of ds)) (required_deltas (deltas_of ds)))
    by true ih = let e = same_side a d in cc
    by false ih = ih

pub coordinates_are : (b : Bool) (ds : List GlyphDelta) → packed_deltas (column X b ds) ++ packed_deltas (column Y b ds) ≡ coordinates (kept_deltas b (deltas_of ds))
coordinates_are b ds = ap (λ l. packed_deltas l ++ packed_deltas (column Y b ds)) (column_is X b ds) ∙ ap (λ l. packed_deltas (xs_of (kept_deltas b (deltas_of ds))) ++ packed_deltas l) (column_is Y b ds)

pub coordinates_size : (b : Bool) (ds : List GlyphDelta) (m n : ℕ) → m ≡ length (packed_deltas (column X b ds)) → n ≡ length (packed_deltas (column Y b ds)) → m + n ≡ length (coordinates (kept_deltas b (deltas_of ds)))
coordinates_size b ds m n e f =
    let l = length-append (packed_deltas (column X b ds)) (packed_deltas (column Y b ds)) in
    omega arith ∙ sym l ∙ ap length (coordinates_are b ds)

-- all or none are required, by count
count_most : (n : ℕ) (ds : List Delta) → length (required_from n ds) ≤ length ds
count_most n [] = omega arith
count_most n (d ∷ ds) = by d.required (count_most (suc n) ds)
  where
    by : (b : Bool) → length (required_from (suc n) ds) ≤ length ds → length (cond b (n ∷ required_from (suc n) ds) (required_from (suc n) ds)) ≤ suc (length ds)
    by true h = omega arith
    by false h = omega arith

all_counted : (n : ℕ) (ds : List Delta) → length (required_from n ds) ≡ length ds → all_required ds ≡ true
all_counted n [] e = refl
all_counted n (d ∷ ds) e = by d.required (all_counted (suc n) ds) (count_most (suc n) ds) e
  where
    by : (b : Bool) → (length (required_from (suc n) ds) ≡ length ds → all_required ds ≡ true) → length (required_from (suc n) ds) ≤ length ds →
        length (cond b (n ∷ required_from (suc n) ds) (required_from (suc n) ds)) ≡ suc (length ds) → (b && all_required ds) ≡ true
    by true ih h q = ih (omega arith)
    by false ih h q = absurd (omega arith)

all_count : (n : ℕ) (ds : List Delta) → all_required ds ≡ true → length (required_from n ds) ≡ length ds
all_count n [] e = refl
all_count n (d ∷ ds) e = by d.required (all_count (suc n) ds) e
  where
    by : (b : Bool) → (all_required ds ≡ true → length (required_from (suc n) ds) ≡ length ds) → (b && all_required ds) ≡ true → length (cond b (n ∷ required_from (suc n) ds) (required_from (suc n) ds)) ≡ suc (length ds)
    by true ih q = ap suc (ih q)
    by false ih q = let z : ◌≡◌ {A = ℕ} 0 1 = cc in absurd (omega arith)

none_counted : (n : ℕ) (ds : List Delta) → length (required_from n ds) ≡ 0 → none_required ds ≡ true
none_counted n [] e = refl
none_counted n (d ∷ ds) e = by d.required (none_counted (suc n) ds) e
  where
    by : (b : Bool) → (length (required_from (suc n) ds) ≡ 0 → none_required ds ≡ true) → length (cond b (n ∷ required_from (suc n) ds) (required_from (suc n) ds)) ≡ 0 → (not b && none_required ds) ≡ true
    by true ih q = absurd (omega arith)
    by false ih q = ih q

none_count : (n : ℕ) (ds : List Delta) → none_required ds ≡ true → length (required_from n ds) ≡ 0
none_count n [] e = refl
none_count n (d ∷ ds) e = by d.required (none_count (suc n) ds) e
  where
    by : (b : Bool) → (none_required ds ≡ true → length (required_from (suc n) ds) ≡ 0) → (not b && none_required ds) ≡ true → length (cond b (n ∷ required_from (suc n) ds) (required_from (suc n) ds)) ≡ 0
    by true ih q = let z : ◌≡◌ {A = ℕ} 0 1 = cc in absurd (omega arith)
    by false ih q = ih q

refuted : (b : Bool) → (b ≡ true → ⊥) → b ≡ false
refuted true h = absurd (h refl)
refuted false h = refl

-- the three ways to all points, and the one to the required ones
pub stores_none : (ds : List Delta) → length (required_from 0 ds) ≡ 0 → stores_all ds ≡ true
stores_none ds e = or_right (all_required ds) _ (or_left (none_required ds) _ (none_counted 0 ds e))

pub stores_every : (ds : List Delta) → length (required_from 0 ds) ≡ length ds → stores_all ds ≡ true
stores_every ds e = or_left (all_required ds) _ (all_counted 0 ds e)

pub stores_smaller : (ds : List Delta) → size_all ds ≤ size_required ds → stores_all ds ≡ true
stores_smaller ds h = or_right (all_required ds) _ (or_right (none_required ds) _ (le-leb (size_all ds) (size_required ds) h))

pub stores_part : (ds : List Delta) → (length (required_from 0 ds) ≡ 0 → ⊥) → (length (required_from 0 ds) ≡ length ds → ⊥) → size_required ds < size_all ds → stores_all ds ≡ false
stores_part ds n a h =
    or_from (all_required ds) _ (refuted (all_required ds) (λ e. a (all_count 0 ds e)))
    (or_from (none_required ds) _ (refuted (none_required ds) (λ e. n (none_count 0 ds e))) (lt-leb (size_all ds) (size_required ds) h))

pub stored_every : (ds : List Delta) (v : ℕ) → stores_all ds ≡ true → v ≡ length (coordinates ds) → StoredAs ds (record { all = true; points = 1; values = v })
stored_every ds v e q =
    record {
      all_is = sym e;
      points_are = ap (λ p. length (packed_points p)) (sym (cond-true (stores_all ds) every (only (required_from 0 ds)) e));
      values_are = q ∙ ap (λ l. length (coordinates l)) (sym (cond-true (stores_all ds) ds (required_deltas ds) e));
    }

pub stored_part : (ds : List Delta) (p v : ℕ) → stores_all ds ≡ false → p ≡ length (packed_points (only (required_from 0 ds))) → v ≡ length (coordinates (required_deltas ds)) →
    StoredAs ds (record { all = false; points = p; values = v })
stored_part ds p v e q r =
    record {
      all_is = sym e;
      points_are = q ∙ ap (λ o. length (packed_points o)) (sym (cond-false (stores_all ds) every (only (required_from 0 ds)) e));
      values_are = r ∙ ap (λ l. length (coordinates l)) (sym (cond-false (stores_all ds) ds (required_deltas ds) e));
    }

pub stored_less : (ds : List Delta) (k m w p v : ℕ) → k ≡ length (required_from 0 ds) → length ds ≡ m → (k ≡ 0 → ⊥) → (k ≡ m → ⊥) →
    w ≡ length (coordinates ds) → p ≡ length (packed_points (only (required_from 0 ds))) → v ≡ length (coordinates (required_deltas ds)) → p + v < 1 + w →
    StoredAs ds (record { all = false; points = p; values = v })
stored_less ds k m w p v ek em n a ew ep ev h =
    let s : size_required ds < size_all ds = (let q = ap (λ i. i + v) ep in let r = ap (λ i. length (packed_points (only (required_from 0 ds))) + i) ev in omega arith) in
    stored_part ds p v (stores_part ds (λ e. n (ek ∙ e)) (λ e. a (ek ∙ e ∙ em)) s) ep ev
