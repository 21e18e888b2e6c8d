-- One coordinate of the deltas of a variation, as a list.
use Rattle.std.specs.Prelude.{◌≡◌, ℕ, ◌<◌, ◌≤◌, Bool, true, false, cond, ◌||◌, List, [], ◌∷◌, map, length, get_or, drop, ℤ, pos, Some, None, Option}
use Rattle.format.specs.Account.{Delta}
use Rattle.variations.specs.declared.delta.GlyphDelta.{GlyphDelta}
use Rattle.variations.specs.declared.delta.Coordinate.{Coordinate}
use Rattle.variations.specs.declared.delta.Coordinate.TheVariants.{X, Y}
use Rattle.variations.specs.declared.deltas.PackedDeltas.{PackedDeltas}

-- a delta of the program as the definitions of the table have it
abbrev pub delta_of : GlyphDelta → Delta
delta_of d = record { x = d.x; y = d.y; required = d.required }

abbrev pub deltas_of : List GlyphDelta → List Delta
deltas_of ds = map delta_of ds

abbrev pub coordinate_of : Coordinate → GlyphDelta → ℤ
coordinate_of X d = d.x
coordinate_of Y d = d.y

abbrev pub is_stored : Bool → GlyphDelta → Bool
is_stored all d = all || d.required

-- one coordinate of all deltas, or of the required ones
abbrev pub column : Coordinate → Bool → List GlyphDelta → List ℤ
column a all [] = []
column a all (d ∷ ds) = let r = column a all ds in cond (is_stored all d) (coordinate_of a d ∷ r) r

-- the values of a column from a place on
abbrev pub values_from : PackedDeltas → ℕ → List ℤ
values_from c place = column c.coordinate c.all (drop place c.deltas.now)

-- stands for a delta that there is not
abbrev pub no_delta : GlyphDelta
no_delta = record { x = pos 0; y = pos 0; required = false }

-- the place of the first delta from a place on that is stored, or that none is
abbrev pub NextStored : Bool → List GlyphDelta → ℕ → Option ℕ → Type 0
NextStored all ds place None = (k : ℕ) → place ≤ k → k < length ds → is_stored all (get_or ds k no_delta) ≡ false
NextStored all ds place (Some at) =
    (place ≤ at)
    × (at < length ds)
    × (is_stored all (get_or ds at no_delta) ≡ true)
    × ((k : ℕ) → place ≤ k → k < at → is_stored all (get_or ds k no_delta) ≡ false)
