-- Every set of points in range is read back.
use Rattle.std.proofs.Common.{◌≡◌, ℕ, ◌+◌, ◌≤◌, List, ◌++◌, length, refl}
use Rattle.format.specs.Account.{Declined}
use Rattle.format.specs.Packed.{Points, every, only, packed_points}
use Rattle.format.specs.Streams.{rest, read_points, found}
use Rattle.format.specs.Laws.{InRange, Countable}
use Rattle.format.proofs.Points.{packed_points_back}

pub points_back :
    (d : ℕ → ℕ → Declined) (p : ℕ) (ps : Points) (r : List ℕ) (at : ℕ) → p ≤ 65536 → InRange p ps → Countable ps →
    read_points d p (packed_points ps ++ r) at ≡ found (rest ps r (at + length (packed_points ps)))
points_back d p every r at le h few = refl
points_back d p (only qs) r at le h few = packed_points_back d p qs r at le (record { some_points = h.0; few = few; rising = h.1 })
