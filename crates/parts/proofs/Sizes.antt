-- How many bytes points and coordinates take at most.
use Rattle.std.proofs.Common.{◌≡◌, ℕ, zero, suc, ◌+◌, ◌*◌, ◌≤◌, Bool, List, [], ◌∷◌, map, length, take, drop, ℤ, ap, arith, length-append, take-append-drop}
use Rattle.std.proofs.lemmas.List.{length-map}
use Rattle.std.proofs.lemmas.Bool.{cond_both}
use Rattle.format.specs.Account.{Delta}
use Rattle.format.specs.Bytes.{joined, passing}
use Rattle.format.specs.Packed.{Kind, zeros, bytes, words, kind, extent, value_bytes, run_bytes, cut_at_most, packed_deltas}
use Rattle.format.specs.Glyphs.{required_deltas, xs_of, ys_of, coordinates, stores_all, stored_deltas}

split_long : {X : Type 0} (n : ℕ) (xs : List X) → length (take n xs) + length (drop n xs) ≡ length xs
split_long n xs = let e = ap length (take-append-drop n xs) in let a = length-append (take n xs) (drop n xs) in omega arith

-- Coordinates

values_most : (k : Kind) (zs : List ℤ) → length (joined (map (value_bytes k) zs)) ≤ 2 * length zs
values_most zeros [] = omega arith
values_most zeros (z ∷ zs) = let e = values_most zeros zs in omega arith
values_most bytes [] = omega arith
values_most bytes (z ∷ zs) = let e = values_most bytes zs in omega arith
values_most words [] = omega arith
values_most words (z ∷ zs) = let e = values_most words zs in omega arith

runs_most : (m : ℕ) (zs : List ℤ) → length (joined (map run_bytes (cut_at_most m zs))) ≤ 3 * length zs
runs_most zero zs = omega arith
runs_most (suc m) [] = omega arith
runs_most (suc m) (z ∷ zs) =
    let n = extent (kind z) 63 zs in
    let v = values_most (kind z) (z ∷ take n zs) in
    let r = runs_most m (drop n zs) in
    let s = split_long n zs in
    let a = length-append (joined (map (value_bytes (kind z)) (z ∷ take n zs))) (joined (map run_bytes (cut_at_most m (drop n zs)))) in
    omega arith

coordinates_most : (ds : List Delta) → length (coordinates ds) ≤ 6 * length ds
coordinates_most ds =
    let a = length-append (packed_deltas (xs_of ds)) (packed_deltas (ys_of ds)) in
    let x = runs_most (length (xs_of ds)) (xs_of ds) in
    let y = runs_most (length (ys_of ds)) (ys_of ds) in
    let p = length-map ds (λ d. d.x) in
    let q = length-map ds (λ d. d.y) in
    omega arith

passing_most : (p : Delta → Bool) (ds : List Delta) → length (passing p ds) ≤ length ds
passing_most p [] = omega arith
passing_most p (d ∷ ds) =
    let r = passing_most p ds in
    cond_both (p d) (d ∷ passing p ds) (passing p ds) (λ xs. length xs ≤ suc (length ds)) (λ _. omega arith) (λ _. omega arith)

-- What a variation stores

pub stored_most : (ds : List Delta) → length (coordinates (stored_deltas ds)) ≤ 6 * length ds
stored_most ds =
    let r = passing_most (λ d. d.required) ds in
    let a = coordinates_most ds in
    let b = coordinates_most (required_deltas ds) in
    cond_both (stores_all ds) ds (required_deltas ds) (λ es. length (coordinates es) ≤ 6 * length ds) (λ _. a) (λ _. omega arith)
