-- Classes of the same items, by their first items. Assumes nothing.
use Rattle.std.proofs.Common.{◌≡◌, ℕ, zero, suc, ◌+◌, ◌<◌, ◌≤◌, Bool, true, false, cond, ◌⊎◌, sym, refl, ap, ◌∙◌, subst, inl, inr, add-one, arith}
use Rattle.std.proofs.lemmas.Bool.{both_ways, cases_lt, cases_eq, eq-eqb, eqb-true}
use Rattle.format.specs.Ranked.{count_below, first_below, first, count, is_first}
use Rattle.format.proofs.Counts.{count_more, count_less, count_none, first_least}
use Rattle.counts.specs.Sameness.{Sameness}

pub refuted : (t : Bool) → (t ≡ true → ⊥) → t ≡ false
refuted true h = absurd (h refl)
refuted false h = refl

-- ---- counts
pub count_ext : (n : ℕ) (p q : ℕ → Bool) → ((k : ℕ) → k < n → p k ≡ q k) → count_below n p ≡ count_below n q
count_ext zero p q h = refl
count_ext (suc n) p q h = rw (h n (omega arith), count_ext n p q (λ k l. h k (omega arith)))

pub count_le : (n : ℕ) (p : ℕ → Bool) → count_below n p ≤ n
count_le zero p = omega arith
count_le (suc n) p = elim (p n) as (λ v. cond v 1 0 + count_below n p ≤ suc n) [ true ↦ omega (arith, count_le n p) | false ↦ omega (arith, count_le n p) ]

pub count_yes : (n : ℕ) (p : ℕ → Bool) → p n ≡ true → count_below (n + 1) p ≡ count_below n p + 1
count_yes n p e = rw (add-one, e) (omega arith)

pub count_no : (n : ℕ) (p : ℕ → Bool) → p n ≡ false → count_below (n + 1) p ≡ count_below n p
count_no n p e = rw (add-one, e) (omega arith)

-- ---- the least number that passes
pub record Least (p : ℕ → Bool) (m f : ℕ) : Type 0 where
  pub inside : f < m
  pub passes : p f ≡ true
  pub least : (k : ℕ) → k < f → p k ≡ false

search_below : (m : ℕ) (p : ℕ → Bool) → ((k : ℕ) → k < m → p k ≡ false) ⊎ ((f : ℕ) × Least p m f)
search_below zero p = inl (λ k l. absurd (let z : ⊥ = omega arith in z))
search_below (suc m) p = by (search_below m p) (p m) refl
  where
    by : ((k : ℕ) → k < m → p k ≡ false) ⊎ ((f : ℕ) × Least p m f) → (b : Bool) → p m ≡ b → ((k : ℕ) → k < suc m → p k ≡ false) ⊎ ((f : ℕ) × Least p (suc m) f)
    by (inr r) b e = inr (r.0, record { inside = omega (arith, r.1.inside); passes = r.1.passes; least = r.1.least })
    by (inl h) true e = inr (m, record { inside = omega arith; passes = e; least = h })
    by (inl h) false e = inl (λ k l. elim (cases_eq k m) [ inl q ↦ ap p q ∙ e | inr ne ↦ h k (omega arith) ])

pub first_found : (n : ℕ) (p : ℕ → Bool) (c : ℕ) → c < n → p c ≡ true → Least p n (first_below n p)
first_found n p c l e = by (search_below n p)
  where
    by : ((k : ℕ) → k < n → p k ≡ false) ⊎ ((f : ℕ) × Least p n f) → Least p n (first_below n p)
    by (inl h) = absurd (both_ways _ (h c l) e)
    by (inr r) = subst (λ (f : ℕ). Least p n f) (sym (first_least n p r.0 r.1.inside r.1.passes r.1.least)) r.1

-- ---- first items
module _ {alike : ℕ → ℕ → Bool} {n : ℕ} (s : Sameness alike n) where
  pub first_is_least : (i : ℕ) → i < n → Least (λ j. alike j i) n (first n alike i)
  first_is_least i l = first_found n (λ j. alike j i) i l (s.reflexive i l)

  pub first_inside : (i : ℕ) → i < n → first n alike i < n
  first_inside i l = (first_is_least i l).inside

  pub first_alike : (i : ℕ) → i < n → alike (first n alike i) i ≡ true
  first_alike i l = (first_is_least i l).passes

  pub first_le : (i : ℕ) → i < n → first n alike i ≤ i
  first_le i l = elim (cases_lt i (first n alike i)) [ inl k ↦ absurd (both_ways _ ((first_is_least i l).least i k) (s.reflexive i l)) | inr k ↦ k ]

  -- items that are the same have the same first item
  pub first_same : (i j : ℕ) → i < n → j < n → alike i j ≡ true → first n alike j ≡ first n alike i
  first_same i j hi hj e =
      let f = first_is_least i hi in
      first_least n (λ k. alike k j) (first n alike i) f.inside
      (s.transitive (first n alike i) i j f.inside hi hj f.passes e)
      (λ k l. refuted (alike k j) (λ b.
      let hk : k < n = omega (arith, f.inside) in
      both_ways _ (f.least k l) (s.transitive k j i hk hj hi b (s.symmetric i j hi hj e))))

  -- and the other way round
  pub same_first : (i j : ℕ) → i < n → j < n → first n alike i ≡ first n alike j → alike i j ≡ true
  same_first i j hi hj e =
      let f = first_is_least i hi in
      let g : alike (first n alike i) j ≡ true = subst (λ (x : ℕ). alike x j ≡ true) (sym e) (first_alike j hj) in
      s.transitive i (first n alike i) j hi f.inside hj (s.symmetric (first n alike i) i f.inside hi f.passes) g

  -- a first item is its own
  pub first_first : (i : ℕ) → i < n → first n alike (first n alike i) ≡ first n alike i
  first_first i l = sym (first_same (first n alike i) i (first_inside i l) l (first_alike i l))

  pub count_same : (i j : ℕ) → i < n → j < n → alike i j ≡ true → count n alike j ≡ count n alike i
  count_same i j hi hj e =
      let a = count_more n (λ k. alike k j) (λ k. alike k i) (λ k l b. s.transitive k j i l hj hi b (s.symmetric i j hi hj e)) in
      let b = count_more n (λ k. alike k i) (λ k. alike k j) (λ k l b. s.transitive k i j l hi hj b e) in
      omega arith

  pub count_first : (i : ℕ) → i < n → count n alike (first n alike i) ≡ count n alike i
  count_first i l = sym (count_same (first n alike i) i (first_inside i l) l (first_alike i l))

  pub count_some : (i : ℕ) → i < n → 0 < count n alike i
  count_some i l =
      let z = count_none n (λ k. false) (λ k m. refl) in
      omega (arith, count_less n (λ k. false) (λ k. alike k i) (λ k m e. absurd (both_ways false refl e)) i l refl (s.reflexive i l))

-- the test of a first item
pub is_first_yes : (n : ℕ) (alike : ℕ → ℕ → Bool) (i : ℕ) → first n alike i ≡ i → is_first n alike i ≡ true
is_first_yes n alike i e = eq-eqb (first n alike i) i e

pub is_first_own : (n : ℕ) (alike : ℕ → ℕ → Bool) (i : ℕ) → is_first n alike i ≡ true → first n alike i ≡ i
is_first_own n alike i e = eqb-true (first n alike i) i e
