-- Laws of the chains of glyphs. Assumes nothing.
use Rattle.std.proofs.Common.{◌≡◌, ℕ, zero, suc, ◌+◌, ◌%◌, ◌<◌, ◌≤◌, Bool, true, false, cond, eqb, Some, None, Option, MatchOption, IfSome, IsSomeAnd, ◌≢◌, sym, refl, ap, ◌∙◌, subst, inl, inr, arith}
use Rattle.std.proofs.lemmas.Bool.{cases_eq, eq-eqb, ne_eqb, eqb-true, false≢true, or_from, or_parts, both_ways}
use Rattle.sets.specs.Index.{previous, Heads, Nexts, seen, Apart, Low}

-- a place that is found lies below k, in the bucket
abbrev pub Inside : (ℕ → ℕ) → ℕ → ℕ → ℕ → Option ℕ → Type 0
Inside N n b k x = MatchOption x (Unit {0}) (λ p. (p < k) × (N p % n ≡ b))

inside_more : (N : ℕ → ℕ) (n b k : ℕ) (x : Option ℕ) → Inside N n b k x → Inside N n b (suc k) x
inside_more N n b k None h = tt
inside_more N n b k (Some p) h = (omega (arith, h.0), h.1)

-- a place that is found is a number as small as the places are
pub inside_fits : (N : ℕ → ℕ) (n b k most : ℕ) (x : Option ℕ) → Inside N n b k x → k ≤ most → IfSome x (λ p. p < most)
inside_fits N n b k most None h l = tt
inside_fits N n b k most (Some p) h l = omega (arith, h.0)

inside_step : (N : ℕ → ℕ) (n b k : ℕ) (t : Bool) (x : Option ℕ) → (t ≡ true → N k % n ≡ b) → Inside N n b k x → Inside N n b (suc k) (cond t (Some k) x)
inside_step N n b k true x e h = (omega arith, e refl)
inside_step N n b k false x e h = inside_more N n b k x h

last_step : (t : Bool) (k g : ℕ) (x : Option ℕ) → (g < k → IsSomeAnd x (λ p. g ≤ p)) → g < suc k → (g ≡ k → t ≡ true) → IsSomeAnd (cond t (Some k) x) (λ p. g ≤ p)
last_step true k g x h l e = omega arith
last_step false k g x h l e = elim (cases_eq g k) [ inl q ↦ absurd (false≢true (e q)) | inr ne ↦ h (omega arith) ]

module _ (N : ℕ → ℕ) (n b : ℕ) where
  pub previous_inside : (k : ℕ) → Inside N n b k (previous N n b k)
  previous_inside zero = tt
  previous_inside (suc k) = inside_step N n b k (eqb (N k % n) b) (previous N n b k) (λ e. eqb-true _ _ e) (previous_inside k)

  -- no glyph of the bucket lies behind it
  pub previous_last : (k g : ℕ) → g < k → N g % n ≡ b → IsSomeAnd (previous N n b k) (λ p. g ≤ p)
  previous_last zero g l e = absurd (omega arith)
  previous_last (suc k) g l e =
      last_step (eqb (N k % n) b) k g (previous N n b k) (λ h. previous_last k g h e) l
      (λ q. eq-eqb _ _ (subst (λ (x : ℕ). N x % n ≡ b) q e))

pub previous_same : (N M : ℕ → ℕ) (n b k : ℕ) → ((g : ℕ) → g < k → N g ≡ M g) → previous N n b k ≡ previous M n b k
previous_same N M n b zero h = refl
previous_same N M n b (suc k) h =
    let i = previous_same N M n b k (λ g l. h g (omega arith)) in
    rw (h k (omega arith), i) refl

-- a head that is read where the bucket has a glyph
pub some_head : (N : ℕ → ℕ) (H : ℕ → Option ℕ) (m n b p : ℕ) → Heads N H m n → p < m → N p % n ≡ b → H b ≡ previous N n b m
some_head N H m n b p h l e = subst (λ (x : ℕ). H x ≡ previous N n x m) e (h p l)

-- what is read of a head is the first link: where the head is not one of the bucket there is none
pub no_head : (N : ℕ → ℕ) (H : ℕ → Option ℕ) (m n b : ℕ) → Heads N H m n → ((p : ℕ) → H b ≡ Some p → p < m → N p % n ≡ b → ⊥) → None ≡ previous N n b m
no_head N H m n b h out =
    none_there (previous N n b m) (previous_inside N n b m) (λ p l e q. out p (some_head N H m n b p h l e ∙ q) l e)
  where
    none_there : (x : Option ℕ) → Inside N n b m x → ((p : ℕ) → p < m → N p % n ≡ b → x ≡ Some p → ⊥) → None ≡ x
    none_there None i out = refl
    none_there (Some p) i out = absurd (out p i.0 i.1 refl)

-- the search for a number stands at a link: it is one of the number's bucket, and no glyph with the number lies behind it
pub record Walk (N : ℕ → ℕ) (m n number : ℕ) (x : Option ℕ) : Type 0 where
  pub inside : Inside N n (number % n) m x
  pub below : (g : ℕ) → g < m → N g ≡ number → IsSomeAnd x (λ p. g ≤ p)

-- how many places the search may still look at
abbrev pub left : Option ℕ → ℕ
left None = 0
left (Some p) = suc p

pub walk_starts : (N : ℕ → ℕ) (m n number : ℕ) → Walk N m n number (previous N n (number % n) m)
walk_starts N m n number = record {
  inside = previous_inside N n (number % n) m;
  below = λ g l e. previous_last N n (number % n) m g l (ap (λ (x : ℕ). x % n) e);
}

inside_less : (N : ℕ → ℕ) (n b k m : ℕ) (x : Option ℕ) → k ≤ m → Inside N n b k x → Inside N n b m x
inside_less N n b k m None l h = tt
inside_less N n b k m (Some p) l h = (omega (arith, h.0), h.1)

pub walk_more : (N : ℕ → ℕ) (X : ℕ → Option ℕ) (m n number p : ℕ) → Nexts N X m n → Walk N m n number (Some p) → (N p ≡ number → ⊥) → Walk N m n number (X p)
walk_more N X m n number p h w other =
    let l = w.inside.0 in
    let e : X p ≡ previous N n (number % n) p = h p l ∙ ap (λ (b : ℕ). previous N n b p) w.inside.1 in
    subst (λ (y : Option ℕ). Walk N m n number y) (sym e) (record {
      inside = inside_less N n (number % n) p m (previous N n (number % n) p) (omega arith) (previous_inside N n (number % n) p);
      below = λ g lg q. elim (cases_eq g p) [
        | inl z ↦ absurd (other (subst (λ (y : ℕ). N y ≡ number) z q))
        | inr ne ↦ let k = w.below g lg q in previous_last N n (number % n) p g (omega arith) (ap (λ (y : ℕ). y % n) q)
      ];
    })

pub walk_less : (N : ℕ → ℕ) (X : ℕ → Option ℕ) (m n number p : ℕ) → Nexts N X m n → Walk N m n number (Some p) → left (X p) < suc p
walk_less N X m n number p h w =
    subst (λ (y : Option ℕ). left y < suc p) (sym (h p w.inside.0)) (before (previous N n (N p % n) p) (previous_inside N n (N p % n) p))
  where
    before : (x : Option ℕ) → Inside N n (N p % n) p x → left x < suc p
    before None i = omega arith
    before (Some q) i = omega (arith, i.0)

-- one glyph more, at place m, in the bucket of its number
module _ (N M : ℕ → ℕ) (H X G Y : ℕ → Option ℕ) (m n : ℕ)
    (old : (g : ℕ) → g < m → M g ≡ N g)
    (head : G (M m % n) ≡ Some m) (heads : (b : ℕ) → b ≢ M m % n → G b ≡ H b)
    (next : Y m ≡ previous N n (M m % n) m) (nexts : (j : ℕ) → j < m → Y j ≡ X j) where
  pub more_nexts : Nexts N X m n → Nexts M Y (m + 1) n
  more_nexts h j l = elim (cases_eq j m) [
    | inl e ↦ subst (λ (x : ℕ). Y x ≡ previous M n (M x % n) x) (sym e) (next ∙ sym (previous_same M N n (M m % n) m old))
    | inr ne ↦
        let lt : j < m = omega arith in
        nexts j lt ∙ h j lt ∙ ap (λ (x : ℕ). previous N n (x % n) j) (sym (old j lt)) ∙ sym (previous_same M N n (M j % n) j (λ g k. old g (omega arith)))
  ]

  top : (b : ℕ) → M m % n ≡ b → previous M n b (m + 1) ≡ Some m
  top b e =
      let a : m + 1 ≡ suc m = omega arith in
      rw a (rw (eq-eqb _ _ e) refl)

  past : (b : ℕ) → (M m % n ≡ b → ⊥) → previous M n b (m + 1) ≡ previous N n b m
  past b e =
      let a : m + 1 ≡ suc m = omega arith in
      rw a (rw (ne_eqb _ _ e) (previous_same M N n b m old))

  pub more_heads : Heads N H m n → Heads M G (m + 1) n
  more_heads h g l = elim (cases_eq (M g % n) (M m % n)) [
    | inl e ↦ ap G e ∙ head ∙ sym (top (M g % n) (sym e))
    | inr ne ↦
        let other : g ≢ m = λ q. ne (ap (λ (x : ℕ). M x % n) q) in
        let lt : g < m = omega arith in
        heads (M g % n) ne
        ∙ subst (λ (x : ℕ). H (x % n) ≡ previous N n (x % n) m) (sym (old g lt)) (h g lt)
        ∙ sym (past (M g % n) (λ q. ne (sym q)))
  ]

-- a write that leaves the chains alone
module _ (N M : ℕ → ℕ) (H X G Y : ℕ → Option ℕ) (m n : ℕ) (numbers : (g : ℕ) → g < m → M g ≡ N g) (heads : (b : ℕ) → G b ≡ H b) (nexts : (j : ℕ) → j < m → Y j ≡ X j) where
  pub kept_heads : Heads N H m n → Heads M G m n
  kept_heads h g l =
      heads (M g % n)
      ∙ subst (λ (x : ℕ). H (x % n) ≡ previous N n (x % n) m) (sym (numbers g l)) (h g l)
      ∙ sym (previous_same M N n (M g % n) m numbers)

  pub kept_nexts : Nexts N X m n → Nexts M Y m n
  kept_nexts h j l =
      nexts j l ∙ h j l ∙ ap (λ (x : ℕ). previous N n (x % n) j) (sym (numbers j l)) ∙ sym (previous_same M N n (M j % n) j (λ g k. numbers g (omega arith)))

-- numbers that differ
pub not_seen : (N : ℕ → ℕ) (number k : ℕ) → ((g : ℕ) → g < k → N g ≡ number → ⊥) → seen N number k ≡ false
not_seen N number zero h = refl
not_seen N number (suc k) h = or_from _ _ (ne_eqb _ _ (h k (omega arith))) (not_seen N number k (λ g l. h g (omega arith)))

pub seen_not : (N : ℕ → ℕ) (number k : ℕ) → seen N number k ≡ false → (g : ℕ) → g < k → N g ≡ number → ⊥
seen_not N number zero h g l e = absurd (omega arith)
seen_not N number (suc k) h g l e =
    let p = or_parts (eqb (N k) number) (seen N number k) h in
    elim (cases_eq g k) [
      | inl q ↦ both_ways _ p.0 (eq-eqb _ _ (subst (λ (x : ℕ). N x ≡ number) q e))
      | inr ne ↦ seen_not N number k p.1 g (omega arith) e
    ]

pub kept_apart : (N M : ℕ → ℕ) (m : ℕ) → ((g : ℕ) → g < m → M g ≡ N g) → Apart N m → Apart M m
kept_apart N M m old h i l =
    not_seen M (M i) i (λ g k e. seen_not N (N i) i (h i l) g k (sym (old g (omega arith)) ∙ e ∙ old i l))

pub more_apart : (N M : ℕ → ℕ) (m : ℕ) → ((g : ℕ) → g < m → M g ≡ N g) → ((g : ℕ) → g < m → N g ≡ M m → ⊥) → Apart N m → Apart M (m + 1)
more_apart N M m old new h i l =
    elim (cases_eq i m) [
      | inl e ↦ subst (λ (x : ℕ). seen M (M x) x ≡ false) (sym e) (not_seen M (M m) m (λ g k q. new g k (sym (old g k) ∙ q)))
      | inr ne ↦ kept_apart N M m old h i (omega arith)
    ]

pub kept_low : (N M : ℕ → ℕ) (m : ℕ) → ((g : ℕ) → g < m → M g ≡ N g) → Low N m → Low M m
kept_low N M m old h i l = subst (λ (x : ℕ). x ≤ 65534) (sym (old i l)) (h i l)

pub more_low : (N M : ℕ → ℕ) (m : ℕ) → ((g : ℕ) → g < m → M g ≡ N g) → M m ≤ 65534 → Low N m → Low M (m + 1)
more_low N M m old new h i l =
    elim (cases_eq i m) [
      | inl e ↦ subst (λ (x : ℕ). M x ≤ 65534) (sym e) new
      | inr ne ↦ kept_low N M m old h i (omega arith)
    ]
