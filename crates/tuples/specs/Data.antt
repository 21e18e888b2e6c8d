-- The bytes of a variation's data.
use Rattle.std.specs.Prelude.{ℕ, Bool, true, false, List, [], ◌++◌}
use Rattle.format.specs.Account.{Delta}
use Rattle.format.specs.Packed.{packed_points}
use Rattle.format.specs.Glyphs.{coordinates}
use Rattle.tuples.specs.Choice.{kept_deltas, kept_points}

-- the points, unless they are shared
abbrev pub points_part : Bool → Bool → List Delta → List ℕ
points_part true all ds = []
points_part false all ds = packed_points (kept_points all ds)

-- the points unless they are shared, and the coordinates
abbrev pub data_of : Bool → Bool → List Delta → List ℕ
data_of shared all ds = points_part shared all ds ++ coordinates (kept_deltas all ds)
