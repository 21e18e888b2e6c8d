-- What a walk over points still gives.
use Rattle.std.specs.Prelude.{◌≡◌, ℕ, ◌-◌, List, [], ◌∷◌, drop, Some, None, Option as Maybe}
use Rattle.format.specs.Account.{Declined}
use Rattle.format.specs.Packed.{Points, every}
use Rattle.format.specs.Glyphs.{listed}
use Rattle.format.specs.Streams.{rest, found, read_points}
use Rattle.streams.specs.Ahead.{ends, give_all}
use Rattle.streams.specs.Points.{points_ahead}
use Rattle.reader.specs.declared.points.PointList.{PointList}
use Rattle.reader.specs.declared.points.PointWalk.{PointWalk}
use Rattle.reader.specs.declared.points.PointWalk.TheVariants.{Every, Listed}

-- a list of points is read without fault as this set
pub record PlaceRead (l : PointList) (p : ℕ) (set : Points) : Type 0 where
  pub left : List ℕ
  pub past : ℕ
  pub is_read : (d : ℕ → ℕ → Declined) → read_points d p (drop l.at l.bytes.now) l.at ≡ found (rest set left past)

-- the points of a list, or every point where there is none
abbrev pub ListRead : Maybe PointList → ℕ → Points → Type 0
ListRead None p set = set ≡ every
ListRead (Some l) p set = PlaceRead l p set

-- these points are still to come
abbrev pub PointsLeft : PointWalk → List ℕ → Type 0
PointsLeft (Every q p) qs = qs ≡ listed q (p - q) (λ i. i)
PointsLeft (Listed c) qs = (past : ℕ) × (points_ahead c ≡ give_all qs (ends past))

-- the first of them came, or there is none
abbrev pub Came : List ℕ → Maybe ℕ → PointWalk → Type 0
Came qs None w = qs ≡ []
Came qs (Some q) w = (tl : List ℕ) × (qs ≡ q ∷ tl) × PointsLeft w tl
