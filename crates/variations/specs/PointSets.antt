-- The points that packed point numbers stand for.
use Rattle.std.specs.Prelude.{ℕ, List, length}
use Rattle.format.specs.Packed.{Points, every, only, packed_points}
use Rattle.format.specs.Glyphs.{required_from}
use Rattle.variations.specs.declared.delta.GlyphDelta.{GlyphDelta}
use Rattle.variations.specs.declared.points.PackedPointNumbers.{PackedPointNumbers}
use Rattle.variations.specs.declared.points.PackedPointNumbers.TheVariants.{All, Required}
use Rattle.variations.specs.Deltas.{deltas_of}

-- all points, or those whose deltas are required
abbrev pub points_of : PackedPointNumbers → Points
points_of All = every
points_of (Required ds) = only (required_from 0 (deltas_of ds.now))

-- how many deltas they are taken from
abbrev pub deltas_in : PackedPointNumbers → ℕ
deltas_in All = 0
deltas_in (Required ds) = length ds.now

-- the required points, packed
abbrev pub required_bytes : List GlyphDelta → List ℕ
required_bytes ds = packed_points (only (required_from 0 (deltas_of ds)))
