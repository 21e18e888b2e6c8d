-- What a walk over moves still gives.
use Rattle.std.specs.Prelude.{◌≡◌, ℕ, suc, ◌<◌, List, [], ◌∷◌, ℤ, Some, None, Option as Maybe}
use Rattle.format.specs.Reader.{Move as ReadMove, moves_of}
use Rattle.streams.specs.Ahead.{Ahead, ends, fails, gives, give_all}
use Rattle.streams.specs.Deltas.{DeltaCursor, deltas_ahead}
use Rattle.reader.specs.declared.moves.Move.{Move}
use Rattle.reader.specs.declared.moves.Moves.{Moves}
use Rattle.reader.specs.PointWalks.{PointsLeft}

-- how many values are ahead
abbrev pub how_many : {X : Type 0} → Ahead X → ℕ
how_many (ends at) = 0
how_many (fails f) = 0
how_many (gives x a) = suc (how_many a)

-- where something came, the bound on what is left falls
abbrev pub Falls : {X : Type 0} → Maybe X → ℕ → ℕ → Type 0
Falls None before after = Unit {0}
Falls (Some x) before after = after < before

-- these deltas are still to come
abbrev pub DeltasLeft : DeltaCursor → List ℤ → Type 0
DeltasLeft c vs = (past : ℕ) × (deltas_ahead c ≡ give_all vs (ends past))

-- at most so many are
abbrev pub deltas_bound : DeltaCursor → ℕ
deltas_bound c = how_many (deltas_ahead c)

-- the first of them came, or there is none
abbrev pub DeltaCame : List ℤ → Maybe ℤ → DeltaCursor → Type 0
DeltaCame vs None c = vs ≡ []
DeltaCame vs (Some v) c = (tl : List ℤ) × (vs ≡ v ∷ tl) × DeltasLeft c tl

-- the moves that are still to come are those of these points, x and y
pub record MovesLeft (m : Moves) (ms : List ReadMove) : Type 0 where
  pub points : List ℕ
  pub xs : List ℤ
  pub ys : List ℤ
  pub points_left : PointsLeft m.points points
  pub xs_left : DeltasLeft m.xs xs
  pub ys_left : DeltasLeft m.ys ys
  pub in_step : ms ≡ moves_of points xs ys

-- at most so many moves are still to come
abbrev pub moves_bound : Moves → ℕ
moves_bound m = deltas_bound m.xs

-- a move as the definition has it
abbrev pub move_of : Move → ReadMove
move_of m = record { point = m.point; x = m.x; y = m.y }

-- the first of them came, or there is none
abbrev pub Moved : List ReadMove → Maybe Move → Moves → Type 0
Moved ms None w = ms ≡ []
Moved ms (Some m) w = (tl : List ReadMove) × (ms ≡ move_of m ∷ tl) × MovesLeft w tl

-- one call: the first of the moves came, and fewer are left
pub record MoveStep (w : Moves) (r : Maybe Move) (w' : Moves) : Type 0 where
  pub moved : (ms : List ReadMove) → MovesLeft w ms → Moved ms r w'
  pub falls : Falls r (moves_bound w) (moves_bound w')
