-- What is made of each variation, one after the other: what is left from a place on.
use Rattle.std.proofs.Common.{◌≡◌, ℕ, ◌+◌, ◌<◌, ◌≤◌, List, [], ◌++◌, map, length, drop, ap, ◌∙◌, arith, length-append}
use Rattle.std.proofs.lemmas.List.{at_drop_more, at_drop_all}
use Rattle.format.specs.Account.{Variation}
use Rattle.format.specs.Bytes.{joined}
use Rattle.stores.specs.Parts.{variation_at}

-- the bytes of the variations from the j-th on
abbrev pub left_at : (Variation → List ℕ) → List Variation → ℕ → List ℕ
left_at f vs j = joined (map f (drop j vs))

module _ (f : Variation → List ℕ) (vs : List Variation) (j : ℕ) where
  pub left_more : j < length vs → left_at f vs j ≡ f (variation_at vs j) ++ left_at f vs (j + 1)
  left_more h = at_drop_more (λ ws. joined (map f ws)) vs j (record { tents = []; deltas = [] }) h

  pub left_none : length vs ≤ j → left_at f vs j ≡ []
  left_none h = at_drop_all (λ ws. joined (map f ws)) vs j h

  -- a sum over the variations: one more, and all
  pub sum_more : (a n t : ℕ) → j < length vs → n ≡ length (f (variation_at vs j)) → a + length (left_at f vs j) ≡ t → (a + n) + length (left_at f vs (j + 1)) ≡ t
  sum_more a n t h e s =
      let l = ap length (left_more h) ∙ length-append (f (variation_at vs j)) (left_at f vs (j + 1)) in
      omega arith

  pub sum_all : (a t : ℕ) → length vs ≤ j → a + length (left_at f vs j) ≡ t → a ≡ t
  sum_all a t h s = let l = ap length (left_none h) in omega arith
