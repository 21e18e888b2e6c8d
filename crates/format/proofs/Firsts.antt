-- The first condition that applies: where it stands in a list, in lists put together, and in lists by number.
use Rattle.std.proofs.Common.{◌≡◌, ℕ, zero, suc, ◌+◌, ◌<◌, Bool, true, false, cond, ◌⊎◌, List, [], ◌∷◌, ◌++◌, refl, ap, ◌∙◌, subst, inl, inr, arith}
use mathlib.Core.Option.{none, some}
use Rattle.std.specs.List.{AllByRecursion}
use Rattle.std.proofs.ByRecursion.{All-append}
use Rattle.format.specs.Bytes.{joined}
use Rattle.format.specs.Account.{Condition, Declined, first_of}
use Rattle.format.specs.Glyphs.{listed}
use Rattle.format.specs.Answers.{AnsweredFirst, FirstThatApplies, NoneApplies}
use Rattle.format.proofs.Conditions.{Off, none_applies, all_pass}

-- One list

pub some_same : {X : Type 0} (x y : X) → some x ≡ some y → x ≡ y
some_same x y e = let g : x ≡ y = cc in g

pub none_some : {X P : Type 0} (x : X) → none ≡ some x → P
none_some x e = absurd (let z : ◌≡◌ {A = ℕ} 0 1 = cc in omega arith)

first_splits : (cs : List Condition) (d : Declined) → first_of cs ≡ some d → AnsweredFirst cs d
first_splits [] d e = none_some d e
first_splits (c ∷ cs) d e = by c.applies refl e (first_splits cs d)
  where
    by : (b : Bool) → c.applies ≡ b → cond b (some c.answer) (first_of cs) ≡ some d → (first_of cs ≡ some d → AnsweredFirst cs d) → AnsweredFirst (c ∷ cs) d
    by true h g i = record { before = []; condition = c; later = cs; splits = refl; none_before = tt; applies_here = h; answers = some_same c.answer d g }
    by false h g i =
        let r = i g in
        record {
          before = c ∷ r.before;
          condition = r.condition;
          later = r.later;
          splits = ap (λ (xs : List Condition). c ∷ xs) r.splits;
          none_before = (h, r.none_before);
          applies_here = r.applies_here;
          answers = r.answers;
        }

pub first_after : (xs ys : List Condition) → AllByRecursion Off xs → first_of (xs ++ ys) ≡ first_of ys
first_after [] ys h = refl
first_after (x ∷ xs) ys h = rw h.0 (first_after xs ys h.1)

split_first : (cs : List Condition) (d : Declined) → AnsweredFirst cs d → first_of cs ≡ some d
split_first cs d s =
    ap first_of s.splits
    ∙ first_after s.before (s.condition ∷ s.later) s.none_before
    ∙ ap (λ (b : Bool). cond b (some s.condition.answer) (first_of s.later)) s.applies_here
    ∙ ap some s.answers

pub first_that_applies : FirstThatApplies
first_that_applies cs d = (first_splits cs d, split_first cs d)

pub none_that_applies : NoneApplies
none_that_applies cs = (none_applies cs, all_pass cs)

-- Two lists

pub first_left : (xs ys : List Condition) (d : Declined) → first_of xs ≡ some d → first_of (xs ++ ys) ≡ some d
first_left [] ys d e = none_some d e
first_left (x ∷ xs) ys d e = by x.applies e (first_left xs ys d)
  where
    by : (b : Bool) → cond b (some x.answer) (first_of xs) ≡ some d → (first_of xs ≡ some d → first_of (xs ++ ys) ≡ some d) → cond b (some x.answer) (first_of (xs ++ ys)) ≡ some d
    by true g i = g
    by false g i = i g

pub first_either : (xs ys : List Condition) (d : Declined) → first_of (xs ++ ys) ≡ some d → (first_of xs ≡ some d) ⊎ (AllByRecursion Off xs × (first_of ys ≡ some d))
first_either [] ys d e = inr (tt, e)
first_either (x ∷ xs) ys d e = by x.applies refl e (first_either xs ys d)
  where
    more : x.applies ≡ false → (first_of xs ≡ some d) ⊎ (AllByRecursion Off xs × (first_of ys ≡ some d)) → (first_of xs ≡ some d) ⊎ (AllByRecursion Off (x ∷ xs) × (first_of ys ≡ some d))
    more h (inl p) = inl p
    more h (inr p) = inr ((h, p.0), p.1)

    by : (b : Bool) → x.applies ≡ b → cond b (some x.answer) (first_of (xs ++ ys)) ≡ some d →
        (first_of (xs ++ ys) ≡ some d → (first_of xs ≡ some d) ⊎ (AllByRecursion Off xs × (first_of ys ≡ some d))) →
        (cond b (some x.answer) (first_of xs) ≡ some d) ⊎ (AllByRecursion Off (x ∷ xs) × (first_of ys ≡ some d))
    by true h g i = inl g
    by false h g i = more h (i g)

-- Lists by number

pub record FirstAmong (from n : ℕ) (f : ℕ → List Condition) (d : Declined) : Type 0 where
  pub place : ℕ
  pub at : ℕ
  pub is : from + place ≡ at
  pub inside : place < n
  pub answers : first_of (f at) ≡ some d
  pub off_before : (j m : ℕ) → from + j ≡ m → j < place → AllByRecursion Off (f m)

pub first_among : (n from : ℕ) (f : ℕ → List Condition) (d : Declined) → first_of (joined (listed from n f)) ≡ some d → FirstAmong from n f d
first_among zero from f d e = none_some d e
first_among (suc n) from f d e = by (first_either (f from) (joined (listed (suc from) n f)) d e) (first_among n (suc from) f d)
  where
    before : (p : ℕ) → AllByRecursion Off (f from) → ((j m : ℕ) → suc from + j ≡ m → j < p → AllByRecursion Off (f m)) → (j m : ℕ) → from + j ≡ m → j < suc p → AllByRecursion Off (f m)
    before p o h zero m e l = let s : from ≡ m = omega arith in subst (λ (k : ℕ). AllByRecursion Off (f k)) s o
    before p o h (suc j) m e l = h j m (omega arith) (omega arith)

    by : (first_of (f from) ≡ some d) ⊎ (AllByRecursion Off (f from) × (first_of (joined (listed (suc from) n f)) ≡ some d)) →
        (first_of (joined (listed (suc from) n f)) ≡ some d → FirstAmong (suc from) n f d) → FirstAmong from (suc n) f d
    by (inl p) i = record { place = 0; at = from; is = omega arith; inside = omega arith; answers = p; off_before = λ j m e l. absurd (omega arith) }
    by (inr p) i =
        let r = i p.1 in
        record {
          place = suc r.place;
          at = r.at;
          is = omega (arith, r.is);
          inside = omega (arith, r.inside);
          answers = r.answers;
          off_before = before r.place p.0 r.off_before;
        }

pub among_first : (n from : ℕ) (f : ℕ → List Condition) (d : Declined) (i k : ℕ) → from + i ≡ k → i < n →
    ((j m : ℕ) → from + j ≡ m → j < i → AllByRecursion Off (f m)) → first_of (f k) ≡ some d → first_of (joined (listed from n f)) ≡ some d
among_first zero from f d i k e l h a = absurd (omega arith)
among_first (suc n) from f d zero k e l h a =
    let s : k ≡ from = omega arith in
    first_left (f from) (joined (listed (suc from) n f)) d (subst (λ (m : ℕ). first_of (f m) ≡ some d) s a)
among_first (suc n) from f d (suc i) k e l h a =
    first_after (f from) (joined (listed (suc from) n f)) (h 0 from (omega arith) (omega arith))
    ∙ among_first n (suc from) f d i k (omega arith) (omega arith) (λ j m q b. h (suc j) m (omega arith) (omega arith)) a

-- no condition of lists by number applies
pub none_among : (n from : ℕ) (f : ℕ → List Condition) → ((j m : ℕ) → from + j ≡ m → j < n → AllByRecursion Off (f m)) → AllByRecursion Off (joined (listed from n f))
none_among zero from f h = tt
none_among (suc n) from f h =
    All-append Off (f from) (joined (listed (suc from) n f)) (h 0 from (omega arith) (omega arith))
    (none_among n (suc from) f (λ j m q b. h (suc j) m (omega arith) (omega arith)))
