-- The walk along a bucket's chain. Assumes nothing.
use Rattle.std.proofs.Common.{◌≡◌, ℕ, suc, ◌%◌, ◌<◌, ◌≤◌, Bool, true, false, ◌≢◌, Some, None, Option, sym, ap, ◌∙◌, subst, inl, inr, arith}
use Rattle.std.proofs.lemmas.Bool.{both_ways, cases_lt}
use Rattle.format.specs.Ranked.{first}
use Rattle.counts.specs.Sameness.{Sameness}
use Rattle.counts.specs.Chains.{Chained, Link, Reached, Walk}
use Rattle.counts.proofs.Classes.{first_inside, first_alike, first_le, first_same, first_first}

-- how far along a chain: 1 more than the item, or 0 at the end
abbrev pub steps_left : Option ℕ → ℕ
steps_left None = 0
steps_left (Some j) = suc j

module _ {alike : ℕ → ℕ → Bool} {code : ℕ → ℕ} {n : ℕ} (s : Sameness alike n) (agrees : (i j : ℕ) → i < n → j < n → alike i j ≡ true → code i ≡ code j) where
  -- a first item lies in its items' bucket
  first_chained : (i : ℕ) → i < n → Chained alike code n (code i % n) (first n alike i)
  first_chained i hi = record {
    own = first_first s i hi;
    bucket = ap (λ (y : ℕ). y % n) (agrees (first n alike i) i (first_inside s i hi) hi (first_alike s i hi));
  }

  -- where a link of the bucket leads, when item i's first item is not later than the link's end m
  pub walk_along : (i m : ℕ) (x : Option ℕ) → i < n → m ≤ i → (first n alike i < i → first n alike i < m) → Link alike code n (code i % n) m x → Walk alike code n i x
  walk_along i m None hi le below none = elim (cases_lt (first n alike i) i) [
    | inl lt ↦ absurd (none (first n alike i) (below lt) (first_chained i hi))
    | inr ge ↦ omega (arith, first_le s i hi)
  ]
  walk_along i m (Some j) hi le below l = record {
    inside = omega (arith, l.inside);
    chained = l.chained;
    below = λ lt. l.last (first n alike i) (below lt) (first_chained i hi);
  }

  -- a first item that is the same is the class's
  pub walk_found : (i j : ℕ) → i < n → Reached alike code n i j → alike j i ≡ true → j ≡ first n alike i
  walk_found i j hi r same =
      let lj : j < n = omega (arith, r.inside) in
      sym (first_same s j i lj hi same ∙ r.chained.own)

  -- one step along the chain
  pub walk_more : (i j : ℕ) (x : Option ℕ) → i < n → Reached alike code n i j → alike j i ≡ false → Link alike code n (code j % n) j x → Walk alike code n i x
  walk_more i j x hi r other l =
      walk_along i j x hi (omega (arith, r.inside))
      (λ lt.
      let ne : first n alike i ≢ j = λ e. both_ways _ other (subst (λ (z : ℕ). alike z i ≡ true) e (first_alike s i hi)) in
      omega (arith, r.below lt))
      (subst (λ (b : ℕ). Link alike code n b j x) r.chained.bucket l)
