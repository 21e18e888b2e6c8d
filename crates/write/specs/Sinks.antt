-- What a sink stands at, and what becomes of it when bytes are handed over.
use Rattle.std.specs.Prelude.{◌≡◌, ℕ, ◌-◌, ◌<◌, ◌≤◌, List, ◌++◌, length, drop, Ok, Err, fold, Result}
use Rattle.write.specs.declared.sink.SinkError.{SinkError}
use Rattle.write.specs.declared.sink.SinkError.TheVariants.{Full}

-- the meaning of a sink: how many bytes it will still take, and its state; for a sink over lent memory also what that
-- memory holds past the bytes taken, and the ghost name by which the lender knows the memory again (else both are empty)
pub record Standing : Type 0 where
  pub allowance : ℕ
  pub state : List ℕ
  pub beyond : List ℕ
  pub lent : List ℕ

-- from a state and one byte the next state
abbrev pub Step : Type 0
Step = List ℕ → ℕ → List ℕ

-- what a sink answers
abbrev pub Reply : Type 0
Reply = Result (Unit {0}) SinkError

-- bytes that fit are taken by the step in order, and the allowance falls by their number; others change nothing
abbrev pub Outcome : Step → List ℕ → Standing → Standing → Reply → Type 0
Outcome step bs a b (Ok u) =
    (length bs ≤ a.allowance)
    × (b.allowance ≡ a.allowance - length bs)
    × (b.state ≡ fold step a.state bs)
    × (b.beyond ≡ drop (length bs) a.beyond)
    × (b.lent ≡ a.lent)
Outcome step bs a b (Err Full) = (a.allowance < length bs) × (b ≡ a)

-- a sink that stood at a was handed the bytes bs, all or none, and stands at b, with this reply
pub record Handed (step : Step) (bs : List ℕ) (a b : Standing) (r : Reply) : Type 0 where
  pub outcome : Outcome step bs a b r

-- of the bytes `whole` those before `rest` were handed over
pub record Part (step : Step) (whole rest : List ℕ) (a b : Standing) : Type 0 where
  pub done : List ℕ
  pub split : done ++ rest ≡ whole
  pub handed : Handed step done a b (Ok tt)

-- handed over part by part: all the bytes where they fit; where they do not, a front part of them
abbrev pub Feeding : Step → List ℕ → Standing → Standing → Reply → Type 0
Feeding step bs a b (Ok u) = Handed step bs a b (Ok tt)
Feeding step bs a b (Err Full) = (a.allowance < length bs) × ((rest : List ℕ) × Part step bs rest a b)

pub record Fed (step : Step) (bs : List ℕ) (a b : Standing) (r : Reply) : Type 0 where
  pub outcome : Feeding step bs a b r

-- the reply that any n bytes would get from a sink that stands at a
abbrev pub Foretold : Step → ℕ → Standing → Reply → Type 0
Foretold step n a (Ok u) = n ≤ a.allowance
Foretold step n a (Err e) = (bs : List ℕ) → length bs ≡ n → Handed step bs a a (Err e)

pub record Ready (step : Step) (n : ℕ) (a : Standing) (r : Reply) : Type 0 where
  pub told : Foretold step n a r
