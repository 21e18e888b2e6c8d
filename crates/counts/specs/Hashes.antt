-- How a number is mixed into a hash. Assumes nothing.
use Rattle.std.specs.Prelude.{ℕ, ◌+◌, ◌*◌, ◌%◌}

-- a hash with one number more
abbrev pub mix : ℕ → ℕ → ℕ
mix h n = (h + n) * 1103515245 % 4294967291
