-- The moves of an entry, one after another.
use Rattle.std.proofs.Common.{◌≡◌, ℕ, List, [], ◌∷◌, ℤ, Some, None, Ok, Err, Option as Maybe, Result, refl, ap, ◌∙◌}
use Rattle.format.specs.Reader.{Move, moves_of}
use Rattle.streams.specs.Ahead.{ends, give_all}
use Rattle.streams.specs.declared.fault.StreamFault.{StreamFault}
use Rattle.streams.specs.Deltas.{DeltaCursor, deltas_ahead, DeltaStep}
use Rattle.std.specs.Result.{result_unwrap_or}
use Rattle.reader.specs.MoveWalks.{DeltaCame}
use Rattle.reader.proofs.AheadSteps.{comes, ends_here, no_fault}

-- a step of a cursor over deltas
pub delta_came : (c c' : DeltaCursor) (vs : List ℤ) (past : ℕ) (r : Result (Maybe ℤ) StreamFault) → deltas_ahead c ≡ give_all vs (ends past) → DeltaStep c r c' → DeltaCame vs (result_unwrap_or r None) c'
delta_came c c' vs past (Err f) e s = no_fault (deltas_ahead c) (deltas_ahead c') past vs f e s.answer
delta_came c c' vs past (Ok None) e s = ends_here (deltas_ahead c) (deltas_ahead c') past vs e s.answer
delta_came c c' vs past (Ok (Some v)) e s =
    let r = comes (deltas_ahead c) (deltas_ahead c') past vs v e s.answer s.left in
    (r.0, r.1, (past, r.2))

-- no move where no x or no y is left
pub no_x : (ms : List Move) (qs : List ℕ) (xs ys : List ℤ) → ms ≡ moves_of qs xs ys → xs ≡ [] → ms ≡ []
no_x ms qs xs ys m e = m ∙ ap (λ l. moves_of qs l ys) e ∙ none_of qs ys
  where
    none_of : (qs : List ℕ) (ys : List ℤ) → moves_of qs [] ys ≡ []
    none_of [] ys = refl
    none_of (q ∷ qs) ys = refl

pub no_y : (ms : List Move) (qs : List ℕ) (xs ys : List ℤ) → ms ≡ moves_of qs xs ys → ys ≡ [] → ms ≡ []
no_y ms qs xs ys m e = m ∙ ap (λ l. moves_of qs xs l) e ∙ none_of qs xs
  where
    none_of : (qs : List ℕ) (xs : List ℤ) → moves_of qs xs [] ≡ []
    none_of [] xs = refl
    none_of (q ∷ qs) [] = refl
    none_of (q ∷ qs) (x ∷ xs) = refl

-- a move of the first point, x and y
pub one_move : (ms : List Move) (qs : List ℕ) (xs ys : List ℤ) (q : ℕ) (x y : ℤ) (qs' : List ℕ) (xs' ys' : List ℤ) →
    ms ≡ moves_of qs xs ys → qs ≡ q ∷ qs' → xs ≡ x ∷ xs' → ys ≡ y ∷ ys' → ms ≡ record { point = q; x = x; y = y } ∷ moves_of qs' xs' ys'
one_move ms qs xs ys q x y qs' xs' ys' m a b c =
    m ∙ ap (λ l. moves_of l xs ys) a ∙ ap (λ l. moves_of (q ∷ qs') l ys) b ∙ ap (λ l. moves_of (q ∷ qs') (x ∷ xs') l) c
