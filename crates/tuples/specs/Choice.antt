-- Which points a variation stores, with their sizes.
use Rattle.std.specs.Prelude.{◌≡◌, Bool, true, false, List, length}
use Rattle.format.specs.Account.{Delta}
use Rattle.format.specs.Packed.{Points, every, only, packed_points}
use Rattle.format.specs.Glyphs.{required_from, required_deltas, coordinates, stores_all, stored_points, stored_deltas}
use Rattle.tuples.specs.declared.choice.StoredPoints.{StoredPoints}

-- all deltas, or the required ones
abbrev pub kept_deltas : Bool → List Delta → List Delta
kept_deltas true ds = ds
kept_deltas false ds = required_deltas ds

-- all points, or the required ones
abbrev pub kept_points : Bool → List Delta → Points
kept_points true ds = every
kept_points false ds = only (required_from 0 ds)

-- the choice that the table makes, and the sizes of what it stores
pub record StoredAs (ds : List Delta) (r : StoredPoints) : Type 0 where
  pub all_is : r.all ≡ stores_all ds
  pub points_are : r.points ≡ length (packed_points (stored_points ds))
  pub values_are : r.values ≡ length (coordinates (stored_deltas ds))
