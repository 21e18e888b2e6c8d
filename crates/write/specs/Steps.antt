-- The steps of the sinks: from a state and one byte the next state.
use Rattle.std.specs.Prelude.{ℕ, ◌+◌, ◌-◌, ◌*◌, ◌%◌, ◌^◌, List, [], ◌∷◌, ◌++◌, slice_index}

-- the state is the bytes taken
abbrev pub kept : List ℕ → ℕ → List ℕ
kept s b = s ++ (b ∷ [])

-- the state is the number of bytes taken
abbrev pub counted : List ℕ → ℕ → List ℕ
counted s b = (slice_index s 0 + 1) ∷ []

-- the state is a sum modulo 2 ^ 32 of big-endian groups of four, and the number of bytes taken modulo 4
abbrev pub summed : List ℕ → ℕ → List ℕ
summed s b = ((slice_index s 0 + b * 256 ^ (3 - slice_index s 1)) % 2 ^ 32) ∷ ((slice_index s 1 + 1) % 4) ∷ []
