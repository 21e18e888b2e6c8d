-- The step of a sink that keeps the exclusive or of its bytes.
use Rattle.std.specs.Prelude.{ℕ, List, [], ◌∷◌, bit_xor, slice_index}

-- the state is the exclusive or of the bytes taken
abbrev pub mixed : List ℕ → ℕ → List ℕ
mixed s b = bit_xor (slice_index s 0) b ∷ []
