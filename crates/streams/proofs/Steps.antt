-- What an answer says of what was ahead, and how many values a stream gives.
use Rattle.std.proofs.Common.{◌≡◌, ℕ, zero, suc, true, List, [], ◌∷◌, ◌++◌, length, Some, None, Ok, is_some, Option as Maybe, sym, refl, ap, subst, arith}
use Rattle.streams.specs.Ahead.{Ahead, ends, fails, gives, answer_of, rest_of, give_all}

module _ {X : Type 0} where
  -- how many values are ahead
  abbrev pub how_many : Ahead X → ℕ
  how_many (ends at) = 0
  how_many (fails f) = 0
  how_many (gives x a) = suc (how_many a)

  -- a value was answered
  pub gave : (a a' : Ahead X) (o : Maybe X) → is_some o ≡ true → Ok o ≡ answer_of a → a' ≡ rest_of a → (x : X) × (a ≡ gives x a')
  gave a a' None s e h = absurd cc
  gave (ends at) a' (Some x) s e h = (x, cc)
  gave (fails f) a' (Some x) s e h = (x, cc)
  gave (gives y a) a' (Some x) s e h = (y, ap (gives y) (sym h))

  -- one value more was given
  pub give_more : (xs : List X) (x : X) (a : Ahead X) → give_all xs (gives x a) ≡ give_all (xs ++ (x ∷ [])) a
  give_more [] x a = refl
  give_more (y ∷ xs) x a = ap (gives y) (give_more xs x a)

  -- if the stream ends, it gives k values
  abbrev pub Exactly : Ahead X → ℕ → Type 0
  Exactly (ends at) k = k ≡ 0
  Exactly (fails f) k = Unit {0}
  Exactly (gives x a) zero = ⊥
  Exactly (gives x a) (suc k) = Exactly a k

  pub exact_length : (xs : List X) (past k : ℕ) → Exactly (give_all xs (ends past)) k → length xs ≡ k
  exact_length [] past k h = sym h
  exact_length (x ∷ xs) past zero h = absurd h
  exact_length (x ∷ xs) past (suc k) h = ap suc (exact_length xs past k h)

  -- no end comes before the values do
  pub not_ended : (a : Ahead X) (past k : ℕ) → Exactly a (suc k) → a ≡ ends past → ⊥
  not_ended a past k h e = let z : suc k ≡ 0 = subst (λ (t : Ahead X). Exactly t (suc k)) e h in omega arith
