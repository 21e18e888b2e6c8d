-- Ranks of classes: they tell classes apart, and are the numbers below the number of classes.
use Rattle.std.proofs.Common.{◌≡◌, ℕ, ◌<◌, Bool, true, false, ◌&&◌, eqb, ltb, refl, arith}
use Rattle.std.proofs.lemmas.Bool.{and_parts, and_from, lt-ltb, eq-eqb, eqb-true}
use Rattle.std.proofs.lemmas.Bool.Decides.{nat_tests}
use Rattle.format.specs.Ranked.{count_below, is_first, before, rank, ranked}
use Rattle.format.proofs.Counts.{count_less, first_only, each_given}

-- the order of classes
before_trans : (score : ℕ → ℕ) (a b c : ℕ) → before score a b ≡ true → before score b c ≡ true → before score a c ≡ true
before_trans score a b c h k = grind (arith, nat_tests)

before_irrefl : (score : ℕ → ℕ) (a : ℕ) → before score a a ≡ false
before_irrefl score a = grind (arith, nat_tests)

before_total : (score : ℕ → ℕ) (a b : ℕ) → before score a b ≡ false → before score b a ≡ false → a ≡ b
before_total score a b h k = grind (arith, nat_tests)

module _ (n : ℕ) (same : ℕ → ℕ → Bool) (score : ℕ → ℕ) where
  rank_less : (c d : ℕ) → c < n → is_first n same c ≡ true → before score c d ≡ true → rank n same score c < rank n same score d
  rank_less c d l f b =
      count_less n (λ e. is_first n same e && before score e c) (λ e. is_first n same e && before score e d)
      (λ i m h. let a = and_parts (is_first n same i) (before score i c) h in and_from (is_first n same i) (before score i d) a.0 (before_trans score i c d a.1 b))
      c l (rw (f, before_irrefl score c)) (and_from (is_first n same c) (before score c d) f b)

  pub rank_tells : (c d : ℕ) → c < n → d < n → is_first n same c ≡ true → is_first n same d ≡ true → rank n same score c ≡ rank n same score d → c ≡ d
  rank_tells c d lc ld fc fd e = by (before score c d) refl (before score d c) refl
    where
      by : (x : Bool) → before score c d ≡ x → (y : Bool) → before score d c ≡ y → c ≡ d
      by true h y k = absurd (omega (arith, rank_less c d lc fc h))
      by false h true k = absurd (omega (arith, rank_less d c ld fd k))
      by false h false k = before_total score c d h k

-- the class of a class's rank is that class
pub ranked_rank : (n : ℕ) (same : ℕ → ℕ → Bool) (score : ℕ → ℕ) (c : ℕ) → c < n → is_first n same c ≡ true → ranked n same score (rank n same score c) ≡ c
ranked_rank n same score c l f =
    first_only n (λ d. is_first n same d && eqb (rank n same score d) (rank n same score c)) c l
    (and_from (is_first n same c) (eqb (rank n same score c) (rank n same score c)) f (eq-eqb (rank n same score c) (rank n same score c) refl))
    (λ i m h.
    let a = and_parts (is_first n same i) (eqb (rank n same score i) (rank n same score c)) h in
    rank_tells n same score i c m l a.0 f (eqb-true (rank n same score i) (rank n same score c) a.1))

module _ (n : ℕ) (same : ℕ → ℕ → Bool) (score : ℕ → ℕ) where
  -- a class that scores above s has a rank below the number of those
  pub rank_below : (s c : ℕ) → c < n → is_first n same c ≡ true → s < score c → rank n same score c < count_below n (λ i. is_first n same i && ltb s (score i))
  rank_below s c l f k =
      count_less n (λ d. is_first n same d && before score d c) (λ i. is_first n same i && ltb s (score i))
      (λ i m e.
      let p = and_parts (is_first n same i) (before score i c) e in
      and_from (is_first n same i) (ltb s (score i)) p.0 (above i p.1))
      c l (rw (f, itself)) (and_from (is_first n same c) (ltb s (score c)) f (lt-ltb s (score c) k))
    where
      above : (i : ℕ) → before score i c ≡ true → ltb s (score i) ≡ true
      above i b = grind (arith, nat_tests)

      itself : before score c c ≡ false
      itself = grind (arith, nat_tests)

  -- each rank below the number of classes is that of a class
  pub ranked_below : (r : ℕ) → r < count_below n (is_first n same) → ranked n same score r < n
  ranked_below r l = each_given n (is_first n same) (rank n same score) (λ c d. rank_tells n same score c d) below r l
    where
      itself : (c : ℕ) → before score c c ≡ false
      itself c = grind (arith, nat_tests)

      below : (c : ℕ) → c < n → is_first n same c ≡ true → rank n same score c < count_below n (is_first n same)
      below c k f =
          count_less n (λ d. is_first n same d && before score d c) (is_first n same)
          (λ i m e. (and_parts (is_first n same i) (before score i c) e).0) c k (rw (f, itself c)) f
