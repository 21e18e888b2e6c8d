-- The pieces are those of the table: statements that stand on contracts.
use Rattle.std.specs.Prelude.{◌≡◌, ℕ, ◌+◌, Bool, cond, List, ◌++◌, map, length, ℤ, Option}
use Rattle.std.proofs.Math.Option.{Option as Maybe}
use Rattle.format.specs.Account.{Delta, Variation}
use Rattle.format.specs.Packed.{Points}
use Rattle.format.specs.Glyphs.{stores_all, stored_points, is_shared, data_bytes, header_bytes, peak, has_region, shared_index}
use Rattle.tuples.specs.declared.choice.StoredPoints.{StoredPoints}
use Rattle.tuples.specs.Choice.{kept_points, StoredAs}
use Rattle.tuples.specs.Tents.{some_region}
use Rattle.tuples.specs.Headers.{index_of, header_of, third}
use Rattle.tuples.specs.Data.{data_of}

-- where the bounds of a variation start, axis by axis
abbrev pub starts : Variation → List ℤ
starts v = map (λ t. t.start) v.tents

-- and where they end
abbrev pub ends : Variation → List ℤ
ends v = map (λ t. t.end) v.tents

-- the points kept by the table's choice are those that it stores
abbrev pub PointsAreTheTables : Type 0
PointsAreTheTables = (ds : List Delta) (all : Bool) → all ≡ stores_all ds → kept_points all ds ≡ stored_points ds

-- the data of a variation that stores what the table chooses is the table's
abbrev pub DataIsTheTables : Type 0
DataIsTheTables =
    (s : Maybe Points) (v : Variation) (all shared : Bool) → all ≡ stores_all v.deltas → shared ≡ is_shared s (stored_points v.deltas) →
    data_of shared all v.deltas ≡ data_bytes s v

-- the sizes that the choice computes add up to that of the data
abbrev pub SizeIsTheTables : Type 0
SizeIsTheTables =
    (s : Maybe Points) (v : Variation) (r : StoredPoints) (shared : Bool) → StoredAs v.deltas r → shared ≡ is_shared s (stored_points v.deltas) →
    cond shared 0 r.points + r.values ≡ length (data_bytes s v)

-- a region is stored where the table stores one
abbrev pub RegionIsTheTables : Type 0
RegionIsTheTables = (v : Variation) → some_region (peak v) (starts v) (ends v) ≡ has_region v

-- all peaks, then all starts, then all ends: the thirds are the three again
abbrev pub AxesComeInThirds : Type 0
AxesComeInThirds =
    (v : Variation) → let zs = peak v ++ (starts v ++ ends v) in
    (third 0 zs ≡ peak v) × (third 1 zs ≡ starts v) × (third 2 zs ≡ ends v)

-- a header over the parts of a variation is the table's
abbrev pub HeaderIsTheTables : Type 0
HeaderIsTheTables =
    (ps : List (List ℤ)) (s : Maybe Points) (v : Variation) (n : ℕ) (i : Option ℕ) (region shared : Bool) →
    n ≡ length (data_bytes s v) → index_of i ≡ shared_index ps (peak v) → region ≡ has_region v → shared ≡ is_shared s (stored_points v.deltas) →
    header_of n i region shared (peak v) (starts v) (ends v) ≡ header_bytes ps s v
