-- One value after another of a stream that gives these values and ends.
use Rattle.std.proofs.Common.{◌≡◌, ℕ, List, [], ◌∷◌, drop, Some, None, Ok, Err, Option as Maybe, Result, sym, refl, ap, ◌∙◌, arith}
use Rattle.format.specs.Account.{Declined}
use Rattle.format.specs.Streams.{rest, found}
use Rattle.streams.specs.declared.fault.StreamFault.{StreamFault}
use Rattle.streams.specs.Ahead.{Ahead, ends, fails, gives, answer_of, rest_of, give_all, read_ahead}
use Rattle.slots.proofs.HeadSteps.{un_one}
use Rattle.std.specs.Result.{result_unwrap_or}
use Rattle.reader.specs.MoveWalks.{how_many, Falls}

module _ {X : Type 0} where
  -- what is ahead of a cursor whose stream is read without fault
  pub gives_all : (d : ℕ → ℕ → Declined) (bs : List ℕ) (a : Ahead X) (xs : List X) (left : List ℕ) (past : ℕ) → read_ahead d bs a ≡ found (rest xs left past) → a ≡ give_all xs (ends past)
  gives_all d bs (ends at) xs left past e =
      let q : rest [] (drop at bs) at ≡ rest xs left past = cc in
      ap ends (ap (λ r. r.place) q) ∙ ap (λ l. give_all l (ends past)) (ap (λ r. r.value) q)
  gives_all d bs (fails f) xs left past e = absurd (let z : ◌≡◌ {A = ℕ} 0 1 = cc in omega arith)
  gives_all d bs (gives x a) xs left past e =
      let u = un_one x (read_ahead d bs a) xs left past e in
      ap (gives x) (gives_all d bs a u.0 left past u.1) ∙ ap (λ l. give_all l (ends past)) (sym u.2)

  module _ (a a' : Ahead X) (past : ℕ) where
    pub comes : (xs : List X) (x : X) → a ≡ give_all xs (ends past) → Ok (Some x) ≡ answer_of a → a' ≡ rest_of a → (tl : List X) × (xs ≡ x ∷ tl) × (a' ≡ give_all tl (ends past))
    comes [] x e s h = absurd (let q : Ok (Some x) ≡ Ok None = s ∙ ap answer_of e in let z : ◌≡◌ {A = ℕ} 0 1 = cc in omega arith)
    comes (y ∷ xs) x e s h =
        let q : Ok (Some x) ≡ Ok (Some y) = s ∙ ap answer_of e in
        let z : y ≡ x = cc in
        (xs, ap (λ t. t ∷ xs) z, h ∙ ap rest_of e)

    pub ends_here : (xs : List X) → a ≡ give_all xs (ends past) → Ok None ≡ answer_of a → xs ≡ []
    ends_here [] e s = refl
    ends_here (y ∷ xs) e s = absurd (let q : Ok None ≡ Ok (Some y) = s ∙ ap answer_of e in let z : ◌≡◌ {A = ℕ} 0 1 = cc in omega arith)

    pub no_fault : (xs : List X) (f : StreamFault) → a ≡ give_all xs (ends past) → Err f ≡ answer_of a → xs ≡ []
    no_fault [] f e s = refl
    no_fault (y ∷ xs) f e s = absurd (let q : Err f ≡ Ok (Some y) = s ∙ ap answer_of e in let z : ◌≡◌ {A = ℕ} 0 1 = cc in omega arith)

  -- a value that came is ahead no more
  pub falls : (a a' : Ahead X) (r : Result (Maybe X) StreamFault) → r ≡ answer_of a → a' ≡ rest_of a → Falls (result_unwrap_or r None) (how_many a) (how_many a')
  falls a a' (Err f) s h = tt
  falls a a' (Ok None) s h = tt
  falls (ends at) a' (Ok (Some x)) s h = absurd (let z : ◌≡◌ {A = ℕ} 0 1 = cc in omega arith)
  falls (fails f) a' (Ok (Some x)) s h = absurd (let z : ◌≡◌ {A = ℕ} 0 1 = cc in omega arith)
  falls (gives y a) a' (Ok (Some x)) s h = let q : how_many a' ≡ how_many a = ap how_many h in omega arith
