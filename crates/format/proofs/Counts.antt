-- How many numbers below n pass a test, and the least that does.
use Rattle.std.proofs.Common.{◌≡◌, ℕ, zero, suc, ◌+◌, ◌<◌, ◌≤◌, Bool, true, false, cond, ◌&&◌, eqb, ltb, ◌⊎◌, sym, refl, ap, ◌∙◌, inl, inr, arith}
use Rattle.std.proofs.lemmas.Bool.{and_parts, and_from, cases_order, lt-ltb, le-ltb, ltb-true, eq-eqb, eqb-true, true≢false}
use Rattle.std.proofs.lemmas.Bool.Decides.{nat_tests}
use Rattle.format.specs.Ranked.{count_below, first_below}

-- what passes p passes q or r
count_either : (n : ℕ) (p q r : ℕ → Bool) → ((i : ℕ) → i < n → p i ≡ true → (q i ≡ true) ⊎ (r i ≡ true)) → count_below n p ≤ count_below n q + count_below n r
count_either zero p q r h = omega arith
count_either (suc n) p q r h = by (p n) (q n) (r n) (h n (omega arith)) (count_either n p q r (λ j l e. h j (omega arith) e))
  where
    by : (a b c : Bool) → (a ≡ true → (b ≡ true) ⊎ (c ≡ true)) → count_below n p ≤ count_below n q + count_below n r →
        cond a 1 0 + count_below n p ≤ (cond b 1 0 + count_below n q) + (cond c 1 0 + count_below n r)
    by false b c t i = omega arith
    by true true c t i = omega arith
    by true false true t i = omega arith
    by true false false t i = absurd (no (t refl))
      where
        no : (false ≡ true) ⊎ (false ≡ true) → ⊥
        no (inl e) = true≢false (sym e)
        no (inr e) = true≢false (sym e)

pub count_none : (n : ℕ) (p : ℕ → Bool) → ((i : ℕ) → i < n → p i ≡ false) → count_below n p ≡ 0
count_none zero p h = refl
count_none (suc n) p h = rw (h n (omega arith), count_none n p (λ i l. h i (omega arith)))

pub count_more : (n : ℕ) (p q : ℕ → Bool) → ((i : ℕ) → i < n → p i ≡ true → q i ≡ true) → count_below n p ≤ count_below n q
count_more n p q h =
    let z = count_none n (λ i. false) (λ i l. refl) in
    let m = count_either n p q (λ i. false) (λ i l e. inl (h i l e)) in
    omega arith

-- one that p lacks
pub count_less : (n : ℕ) (p q : ℕ → Bool) → ((i : ℕ) → i < n → p i ≡ true → q i ≡ true) → (k : ℕ) → k < n → p k ≡ false → q k ≡ true → count_below n p < count_below n q
count_less zero p q h k l e f = absurd (omega arith)
count_less (suc n) p q h k l e f = by (cases_order k n) (λ s. count_less n p q (λ j m g. h j (omega arith) g) k s e f) (p n) refl (q n) refl
  where
    more : count_below n p ≤ count_below n q
    more = count_more n p q (λ j m g. h j (omega arith) g)

    by : (k ≡ n) ⊎ ((k < n) ⊎ (n < k)) → (k < n → count_below n p < count_below n q) → (a : Bool) → p n ≡ a → (b : Bool) → q n ≡ b → cond a 1 0 + count_below n p < cond b 1 0 + count_below n q
    by (inl s) ih true x false y = absurd (true≢false (sym (h n (omega arith) x) ∙ y))
    by (inr (inl s)) ih true x false y = absurd (true≢false (sym (h n (omega arith) x) ∙ y))
    by (inl s) ih true x true y = absurd (true≢false (sym x ∙ (ap p (sym s) ∙ e)))
    by (inl s) ih false x true y = omega (arith, more)
    by (inl s) ih false x false y = absurd (true≢false (sym (ap q (sym s) ∙ f) ∙ y))
    by (inr (inl s)) ih true x true y = omega (arith, ih s)
    by (inr (inl s)) ih false x true y = omega (arith, more)
    by (inr (inl s)) ih false x false y = omega (arith, ih s)
    by (inr (inr s)) ih a x b y = absurd (omega arith)

-- at most one passes
pub count_one : (n : ℕ) (p : ℕ → Bool) → ((i j : ℕ) → i < n → j < n → p i ≡ true → p j ≡ true → i ≡ j) → count_below n p ≤ 1
count_one zero p h = omega arith
count_one (suc n) p h = by (p n) refl (count_one n p (λ i j l k. h i j (omega arith) (omega arith)))
  where
    off : p n ≡ true → (i : ℕ) → i < n → (b : Bool) → p i ≡ b → b ≡ false
    off t i l true e = absurd (let s = h i n (omega arith) (omega arith) e t in omega arith)
    off t i l false e = refl

    by : (b : Bool) → p n ≡ b → count_below n p ≤ 1 → cond b 1 0 + count_below n p ≤ 1
    by true e m = let z = count_none n p (λ i l. off e i l (p i) refl) in omega arith
    by false e m = omega arith

-- the least that passes
pub first_none : (n : ℕ) (p : ℕ → Bool) → ((i : ℕ) → i < n → p i ≡ false) → first_below n p ≡ n
first_none zero p h = refl
first_none (suc n) p h = rw (first_none n p (λ i l. h i (omega arith)), le-ltb n n (omega arith), h n (omega arith))

pub first_least : (n : ℕ) (p : ℕ → Bool) (c : ℕ) → c < n → p c ≡ true → ((i : ℕ) → i < c → p i ≡ false) → first_below n p ≡ c
first_least zero p c l t u = absurd (omega arith)
first_least (suc n) p c l t u = by (cases_order c n) (λ s. first_least n p c s t u)
  where
    by : (c ≡ n) ⊎ ((c < n) ⊎ (n < c)) → (c < n → first_below n p ≡ c) → cond (ltb (first_below n p) n) (first_below n p) (cond (p n) n (suc n)) ≡ c
    by (inl s) ih =
        let pn : p n ≡ true = ap p (sym s) ∙ t in
        rw (first_none n p (λ i l. u i (omega arith)), le-ltb n n (omega arith), pn) (sym s)
    by (inr (inl s)) ih = rw (ih s, lt-ltb c n s)
    by (inr (inr s)) ih = absurd (omega arith)

-- either it is below, or none passes
pub first_tells : (n : ℕ) (p : ℕ → Bool) → (first_below n p < n) ⊎ ((i : ℕ) → i < n → p i ≡ false)
first_tells zero p = inr (λ i l. absurd (omega arith))
first_tells (suc n) p = by (first_tells n p) (p n) refl
  where
    off : ((i : ℕ) → i < n → p i ≡ false) → p n ≡ false → (i : ℕ) → i < suc n → (i ≡ n) ⊎ ((i < n) ⊎ (n < i)) → p i ≡ false
    off h e i l (inl s) = ap p s ∙ e
    off h e i l (inr (inl s)) = h i s
    off h e i l (inr (inr s)) = absurd (omega arith)

    by : (first_below n p < n) ⊎ ((i : ℕ) → i < n → p i ≡ false) → (b : Bool) → p n ≡ b →
        (cond (ltb (first_below n p) n) (first_below n p) (cond b n (suc n)) < suc n) ⊎ ((i : ℕ) → i < suc n → p i ≡ false)
    by (inl l) b e = inl (rw (lt-ltb (first_below n p) n l) (omega arith))
    by (inr h) true e = inl (rw (first_none n p h, le-ltb n n (omega arith)) (omega arith))
    by (inr h) false e = inr (λ i l. off h e i l (cases_order i n))

-- the only one that passes
pub first_only : (n : ℕ) (p : ℕ → Bool) (c : ℕ) → c < n → p c ≡ true → ((i : ℕ) → i < n → p i ≡ true → i ≡ c) → first_below n p ≡ c
first_only zero p c l t u = absurd (omega arith)
first_only (suc n) p c l t u = by (cases_order c n) (λ s. first_only n p c s t (λ i m g. u i (omega arith) g))
  where
    none_before : c ≡ n → (i : ℕ) → i < n → p i ≡ false
    none_before s i m = off (p i) refl
      where
        off : (x : Bool) → p i ≡ x → x ≡ false
        off true g = absurd (omega (arith, u i (omega arith) g))
        off false g = refl

    by : (c ≡ n) ⊎ ((c < n) ⊎ (n < c)) → (c < n → first_below n p ≡ c) → cond (ltb (first_below n p) n) (first_below n p) (cond (p n) n (suc n)) ≡ c
    by (inl s) ih =
        let pn : p n ≡ true = ap p (sym s) ∙ t in
        rw (first_none n p (none_before s), le-ltb n n (omega arith), pn) (sym s)
    by (inr (inl s)) ih = rw (ih s, lt-ltb c n s)
    by (inr (inr s)) ih = absurd (omega arith)

-- numbers given to the passing ones, all distinct and below their count: each number is given
module _ (n : ℕ) (f : ℕ → Bool) (rk : ℕ → ℕ) (apart : (c d : ℕ) → c < n → d < n → f c ≡ true → f d ≡ true → rk c ≡ rk d → c ≡ d) where
  abbrev under : ℕ → ℕ
  under m = count_below n (λ c. f c && ltb (rk c) m)

  abbrev at : ℕ → ℕ
  at m = count_below n (λ c. f c && eqb (rk c) m)

  under_more : (m : ℕ) → under (suc m) ≤ under m + at m
  under_more m = count_either n (λ c. f c && ltb (rk c) (suc m)) (λ c. f c && ltb (rk c) m) (λ c. f c && eqb (rk c) m)
      (λ i l e.
      let p = and_parts (f i) (ltb (rk i) (suc m)) e in
      let k = ltb-true (rk i) (suc m) p.1 in
      by i p.0 k (cases_order (rk i) m))
    where
      by : (i : ℕ) → f i ≡ true → rk i < suc m → (rk i ≡ m) ⊎ ((rk i < m) ⊎ (m < rk i)) → ((f i && ltb (rk i) m) ≡ true) ⊎ ((f i && eqb (rk i) m) ≡ true)
      by i t k (inl s) = inr (and_from (f i) (eqb (rk i) m) t (eq-eqb (rk i) m s))
      by i t k (inr (inl s)) = inl (and_from (f i) (ltb (rk i) m) t (lt-ltb (rk i) m s))
      by i t k (inr (inr s)) = absurd (omega arith)

  at_one : (m : ℕ) → at m ≤ 1
  at_one m = count_one n (λ c. f c && eqb (rk c) m)
      (λ i j l k e g.
      let p = and_parts (f i) (eqb (rk i) m) e in
      let q = and_parts (f j) (eqb (rk j) m) g in
      apart i j l k p.0 q.0 (eqb-true (rk i) m p.1 ∙ sym (eqb-true (rk j) m q.1)))

  -- without the number r, one less
  under_most : (r : ℕ) → at r ≡ 0 → (m : ℕ) → under m + cond (ltb r m) 1 0 ≤ m
  under_most r z zero =
      let o = count_none n (λ c. f c && ltb (rk c) 0) (λ i l. grind (arith, nat_tests)) in
      rw (le-ltb r 0 (omega arith), o) (omega arith)
  under_most r z (suc m) = by (cases_order m r) (under_most r z m)
    where
      by : (m ≡ r) ⊎ ((m < r) ⊎ (r < m)) → under m + cond (ltb r m) 1 0 ≤ m → under (suc m) + cond (ltb r (suc m)) 1 0 ≤ suc m
      by (inl s) i =
          let z' : at m ≡ 0 = ap (λ (k : ℕ). at k) s ∙ z in
          let i' : under m + 0 ≤ m = rw (le-ltb r m (omega arith)) at i in
          rw (lt-ltb r (suc m) (omega arith)) (omega (arith, i', z', under_more m))
      by (inr (inl s)) i =
          let i' : under m + 0 ≤ m = rw (le-ltb r m (omega arith)) at i in
          rw (le-ltb r (suc m) (omega arith)) (omega (arith, i', under_more m, at_one m))
      by (inr (inr s)) i =
          let i' : under m + 1 ≤ m = rw (lt-ltb r m s) at i in
          rw (lt-ltb r (suc m) (omega arith)) (omega (arith, i', under_more m, at_one m))

  pub each_given : ((c : ℕ) → c < n → f c ≡ true → rk c < count_below n f) → (r : ℕ) → r < count_below n f → first_below n (λ c. f c && eqb (rk c) r) < n
  each_given h r l = by (first_tells n (λ c. f c && eqb (rk c) r))
    where
      all_under : count_below n f ≤ under (count_below n f)
      all_under = count_more n f (λ c. f c && ltb (rk c) (count_below n f)) (λ i k e. and_from (f i) (ltb (rk i) (count_below n f)) e (lt-ltb (rk i) (count_below n f) (h i k e)))

      by : (first_below n (λ c. f c && eqb (rk c) r) < n) ⊎ ((i : ℕ) → i < n → (f i && eqb (rk i) r) ≡ false) → first_below n (λ c. f c && eqb (rk c) r) < n
      by (inl k) = k
      by (inr z) =
          let i = under_most r (count_none n (λ c. f c && eqb (rk c) r) z) (count_below n f) in
          let i' : under (count_below n f) + 1 ≤ count_below n f = rw (lt-ltb r (count_below n f) l) at i in
          absurd (omega (arith, all_under))
