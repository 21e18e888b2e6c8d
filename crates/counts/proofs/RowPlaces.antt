-- Where the rows of peaks stand. Assumes nothing.
use Rattle.std.proofs.Common.{◌≡◌, ℕ, zero, suc, ◌+◌, ◌*◌, ◌<◌, ◌≤◌, List, [], length, get_or, take, drop, ℤ, refl, ap, ◌∙◌, le_of_suc-le-suc, not-suc-le-zero, mul-zero, mul-suc, arith, drop-drop}
use Rattle.counts.specs.Rows.{rows}

pub length_rows : (a : ℕ) (xs : List ℤ) (n : ℕ) → length (rows a xs n) ≡ n
length_rows a xs zero = refl
length_rows a xs (suc n) = ap suc (length_rows a (drop (3 * a) xs) n)

pub rows_at : (a : ℕ) (xs : List ℤ) (n i : ℕ) → i < n → take a (drop (3 * a * i) xs) ≡ get_or (rows a xs n) i []
rows_at a xs zero i l = absurd (not-suc-le-zero l)
rows_at a xs (suc n) zero l = simp mul-zero
rows_at a xs (suc n) (suc i) l =
    let m : 3 * a * suc i ≡ 3 * a + 3 * a * i = mul-suc (3 * a) i ∙ omega arith in
    rw (m, ← drop-drop (3 * a * i) (3 * a) xs) (rows_at a (drop (3 * a) xs) n i (le_of_suc-le-suc l))

pub rows_past : (a : ℕ) (xs : List ℤ) (n i : ℕ) → n ≤ i → [] ≡ get_or (rows a xs n) i []
rows_past a xs zero i l = refl
rows_past a xs (suc n) zero l = absurd (not-suc-le-zero l)
rows_past a xs (suc n) (suc i) l = rows_past a (drop (3 * a) xs) n i (le_of_suc-le-suc l)
