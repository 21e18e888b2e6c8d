-- The peaks in the store of axis values: each takes a values, and the next stands 3 a further on.
use Rattle.std.specs.Prelude.{ℕ, zero, suc, ◌*◌, List, [], ◌∷◌, take, drop, ℤ}

-- the first n of them
abbrev pub rows : ℕ → List ℤ → ℕ → List (List ℤ)
rows a xs zero = []
rows a xs (suc n) = take a xs ∷ rows a (drop (3 * a) xs) n
