-- A glyph is found by its number through chains in the glyph cells: the glyphs whose numbers leave the same remainder
-- modulo the number n of cells lie on one chain, the last begun first. N, H and X give for each place its number, its
-- head and its next.
use Rattle.std.specs.Prelude.{◌≡◌, ℕ, zero, suc, ◌%◌, ◌<◌, ◌≤◌, Bool, false, cond, Some, None, Option, ◌||◌, ◌==◌}

-- the last place below k in bucket b, if there is one
abbrev pub previous : (ℕ → ℕ) → ℕ → ℕ → ℕ → Option ℕ
previous N n b zero = None
previous N n b (suc k) = cond (N k % n == b) (Some k) (previous N n b k)

-- the chains of m glyphs; a bucket without a glyph has any head
abbrev pub Heads : (ℕ → ℕ) → (ℕ → Option ℕ) → ℕ → ℕ → Type 0
Heads N H m n = (g : ℕ) → g < m → H (N g % n) ≡ previous N n (N g % n) m

-- and their links
abbrev pub Nexts : (ℕ → ℕ) → (ℕ → Option ℕ) → ℕ → ℕ → Type 0
Nexts N X m n = (j : ℕ) → j < m → X j ≡ previous N n (N j % n) j

-- whether a place below k has the number
abbrev pub seen : (ℕ → ℕ) → ℕ → ℕ → Bool
seen N number zero = false
seen N number (suc k) = N k == number || seen N number k

-- no two of m places have the same number
abbrev pub Apart : (ℕ → ℕ) → ℕ → Type 0
Apart N m = (i : ℕ) → i < m → seen N (N i) i ≡ false

-- each of m numbers is one that a glyph may have
abbrev pub Low : (ℕ → ℕ) → ℕ → Type 0
Low N m = (i : ℕ) → i < m → N i ≤ 65534
