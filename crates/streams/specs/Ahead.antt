-- What is ahead of a cursor: one value after another, to the stream's end or its fault.
use Rattle.std.specs.Prelude.{ℕ, Bool, true, false, List, [], ◌∷◌, drop, Some, None, Ok, Err, Option as Maybe, Result}
use Rattle.format.specs.Account.{Declined}
use Rattle.format.specs.Streams.{Rest, rest, Read, found, fault}
use Rattle.streams.specs.declared.fault.StreamFault.{StreamFault}
use Rattle.streams.specs.Faults.{stream_declined}

-- the end with the place past the stream, the fault, or a value and what comes after it
pub data Ahead (X : Type 0) : Type 0 where
  ends : ℕ → Ahead X
  fails : StreamFault → Ahead X
  gives : X → Ahead X → Ahead X

-- what a call of `next` answers
abbrev pub answer_of : {X : Type 0} → Ahead X → Result (Maybe X) StreamFault
answer_of (ends at) = Ok None
answer_of (fails f) = Err f
answer_of (gives x a) = Ok (Some x)

-- what is ahead after it: an end and a fault stay
abbrev pub rest_of : {X : Type 0} → Ahead X → Ahead X
rest_of (ends at) = ends at
rest_of (fails f) = fails f
rest_of (gives x a) = a

-- values in front of what is ahead
abbrev pub give_all : {X : Type 0} → List X → Ahead X → Ahead X
give_all [] a = a
give_all (x ∷ xs) a = gives x (give_all xs a)

-- the fault where the test passes
abbrev pub fails_if : {X : Type 0} → Bool → StreamFault → Ahead X → Ahead X
fails_if true f a = fails f
fails_if false f a = a

-- a value in front of what is read
abbrev pub one_more : {X : Type 0} → X → Read (Rest (List X)) → Read (Rest (List X))
one_more x (found s) = found (rest (x ∷ s.value) s.left s.place)
one_more x (fault d) = fault d

-- all that is ahead in the table bs, as one reading
abbrev pub read_ahead : {X : Type 0} → (ℕ → ℕ → Declined) → List ℕ → Ahead X → Read (Rest (List X))
read_ahead d bs (ends at) = found (rest [] (drop at bs) at)
read_ahead d bs (fails f) = fault (stream_declined d f)
read_ahead d bs (gives x a) = one_more x (read_ahead d bs a)
