-- How long packed points can get. Assumes nothing.
use Rattle.std.proofs.Common.{◌≡◌, ℕ, zero, suc, ◌+◌, ◌*◌, ◌≤◌, Bool, true, false, cond, leb, List, [], ◌∷◌, map, length, take, drop, sym, refl, ap, ◌∙◌, arith, length-append, take-append-drop}
use Rattle.format.specs.Account.{Delta}
use Rattle.format.specs.Bytes.{joined, word}
use Rattle.format.specs.Glyphs.{required_from, stores_all, stored_points}
use Rattle.format.specs.Packed.{every, only, packed_points, gaps_after, is_wide, class_extent, cut_gaps_at_most, gap_bytes, gap_run_bytes, count_bytes}

gaps_most : (w : Bool) (gs : List ℕ) → length (joined (map (gap_bytes w) gs)) ≤ 2 * length gs
gaps_most w [] = omega arith
gaps_most true (g ∷ gs) = let k = gaps_most true gs in omega arith
gaps_most false (g ∷ gs) = let k = gaps_most false gs in omega arith

runs_most : (m : ℕ) (gs : List ℕ) → length (joined (map gap_run_bytes (cut_gaps_at_most m gs))) ≤ 3 * length gs
runs_most zero gs = omega arith
runs_most (suc m) [] = omega arith
runs_most (suc m) (g ∷ gs) =
    let n = class_extent (is_wide g) 127 gs in
    let k = gaps_most (is_wide g) (g ∷ take n gs) in
    let r = runs_most m (drop n gs) in
    let a = length-append (joined (map (gap_bytes (is_wide g)) (g ∷ take n gs))) (joined (map gap_run_bytes (cut_gaps_at_most m (drop n gs)))) in
    let s : length (take n gs) + length (drop n gs) ≡ length gs = sym (length-append (take n gs) (drop n gs)) ∙ ap length (take-append-drop n gs) in
    omega arith

gaps_long : (b : ℕ) (ps : List ℕ) → length (gaps_after b ps) ≡ length ps
gaps_long b [] = refl
gaps_long b (p ∷ ps) = ap suc (gaps_long p ps)

count_most : (k : ℕ) → length (count_bytes k) ≤ 2
count_most k = elim (leb k 127) as (λ b. length (cond {A = List ℕ} b (k ∷ []) (word (32768 + k))) ≤ 2) [ true ↦ omega arith | false ↦ omega arith ]

required_long : (n : ℕ) (ds : List Delta) → length (required_from n ds) ≤ length ds
required_long n [] = omega arith
required_long n (d ∷ ds) = by d.required (required_long (suc n) ds)
  where
    by : (b : Bool) → length (required_from (suc n) ds) ≤ length ds → length (cond b (n ∷ required_from (suc n) ds) (required_from (suc n) ds)) ≤ suc (length ds)
    by true h = omega arith
    by false h = omega arith

packed_most : (ps : List ℕ) → length (packed_points (only ps)) ≤ 3 * length ps + 2
packed_most ps =
    let c = count_most (length ps) in
    let r = runs_most (length ps) (gaps_after 0 ps) in
    let g = gaps_long 0 ps in
    let a = length-append (count_bytes (length ps)) (joined (map gap_run_bytes (cut_gaps_at_most (length ps) (gaps_after 0 ps)))) in
    omega arith

pub points_most : (ds : List Delta) → length (packed_points (stored_points ds)) ≤ 3 * length ds + 2
points_most ds = by (stores_all ds)
  where
    by : (b : Bool) → length (packed_points (cond b every (only (required_from 0 ds)))) ≤ 3 * length ds + 2
    by true = omega arith
    by false = let p = packed_most (required_from 0 ds) in let r = required_long 0 ds in omega arith
