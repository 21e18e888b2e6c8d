-- The count of a stream of points, and the stream by its count.
use Rattle.std.proofs.Common.{◌≡◌, ℕ, zero, suc, ◌+◌, ◌-◌, ◌<◌, ◌≤◌, Bool, true, false, cond, eqb, ltb, leb, List, [], ◌∷◌, length, get_or, drop, Ok, Err, sym, refl, ap, ◌∙◌, arith}
use Rattle.std.proofs.lemmas.Bool.{cond-false, ne_eqb, eqb-false, ltb-true, ltb-false, le-ltb, le-leb, lt-leb}
use Rattle.std.proofs.lemmas.List.{drop_more}
use Rattle.format.specs.Account.{Declined}
use Rattle.format.specs.Bytes.{pair}
use Rattle.format.specs.Glyphs.{listed}
use Rattle.format.specs.Packed.{every, only}
use Rattle.format.specs.Streams.{rest, found, fault_if, and_then, counted_points, long_count, read_points}
use Rattle.streams.specs.declared.fault.StreamFault.TheVariants.{Points}
use Rattle.streams.specs.Points.{counted, two_byte_count, count_in, by_count, after_count, PastPointRuns, SetRead}
use Rattle.streams.proofs.Readings.{after_byte, after_word}

-- the count by the code's tests
module _ (bs : List ℕ) (at : ℕ) where
  two_bytes : at + 1 < length bs → 128 ≤ get_or bs at 0 →
      count_in (drop at bs) at
      ≡ cond (eqb (pair (get_or bs at 0 - 128) (get_or bs (at + 1) 0)) 0) (Err (Points at)) (Ok (counted (pair (get_or bs at 0 - 128) (get_or bs (at + 1) 0)) (at + 2)))
  two_bytes h l =
      let t : ltb (get_or bs at 0) 128 ≡ false = le-ltb _ _ l in
      rw (drop_more bs at 0 (omega arith), drop_more bs (at + 1) 0 h, t)

  pub long_count_is : (n : ℕ) → at + 1 < length bs → 128 ≤ get_or bs at 0 → n ≡ pair (get_or bs at 0 - 128) (get_or bs (at + 1) 0) → 0 < n → Ok (counted n (at + 2)) ≡ count_in (drop at bs) at
  long_count_is n h l e z =
      let t : eqb (pair (get_or bs at 0 - 128) (get_or bs (at + 1) 0)) 0 ≡ false = ne_eqb _ _ (λ q. omega arith) in
      rw e (sym (two_bytes h l ∙ cond-false _ _ _ t))

-- what is read after the count
module _ (d : ℕ → ℕ → Declined) (p : ℕ) (bs : List ℕ) (at : ℕ) where
  by_some : (n past : ℕ) → 0 < n → counted_points d p n (drop past bs) past ≡ by_count d p bs n past
  by_some zero past h = absurd (omega arith)
  by_some (suc n) past h = refl

  two_byte : (c : ℕ) (r : List ℕ) → drop at bs ≡ c ∷ r → long_count d p c r at ≡ after_count d p bs (two_byte_count c r at)
  two_byte c [] e = refl
  two_byte c (b ∷ r) e = by (eqb (pair (c - 128) b) 0) refl
    where
      by : (t : Bool) → eqb (pair (c - 128) b) 0 ≡ t →
          fault_if t (d 22 at) (counted_points d p (pair (c - 128) b) r (at + 2)) ≡ after_count d p bs (cond t (Err (Points at)) (Ok (counted (pair (c - 128) b) (at + 2))))
      by true t = refl
      by false t =
          let z : 0 < pair (c - 128) b = omega (arith, eqb-false _ _ t) in
          rw (← after_word bs at c b r e) (by_some (pair (c - 128) b) (at + 2) z)

  in_front : (xs : List ℕ) → drop at bs ≡ xs → read_points d p xs at ≡ after_count d p bs (count_in xs at)
  in_front [] e = refl
  in_front (zero ∷ r) e = rw (← after_byte bs at 0 r e)
  in_front (suc c ∷ r) e = by (ltb (suc c) 128) refl
    where
      by : (t : Bool) → ltb (suc c) 128 ≡ t → read_points d p (suc c ∷ r) at ≡ after_count d p bs (cond t (Ok (counted (suc c) (at + 1))) (two_byte_count (suc c) r at))
      by true t =
          let f : leb 127 c ≡ false = lt-leb 127 c (omega (arith, ltb-true _ _ t)) in
          rw (f, ← after_byte bs at (suc c) r e)
      by false t =
          let f : leb 127 c ≡ true = le-leb 127 c (omega (arith, ltb-false _ _ t)) in
          rw f (two_byte (suc c) r e)

  pub count_read : read_points d p (drop at bs) at ≡ after_count d p bs (count_in (drop at bs) at)
  count_read = in_front (drop at bs) refl

length_listed : {X : Type 0} (from n : ℕ) (f : ℕ → X) → length (listed from n f) ≡ n
length_listed from zero f = refl
length_listed from (suc n) f = ap suc (length_listed (suc from) n f)

-- a set of every point, and one of those that are listed
module _ (bs : List ℕ) (at p n past : ℕ) (h : (d : ℕ → ℕ → Declined) (p : ℕ) → read_points d p (drop at bs) at ≡ by_count d p bs n past) where
  pub set_every : n ≡ 0 → SetRead bs at p (record { size = p; past = past })
  set_every z = record { set = every; is_read = λ d. h d p ∙ (rw z); number = length_listed 0 p (λ i. i) }

  pub set_only : (end : ℕ) → 0 < n → PastPointRuns bs past p n (Ok end) → SetRead bs at p (record { size = n; past = end })
  set_only end z r =
      record {
        set = only r.0;
        is_read = λ d. h d p ∙ sym (by_some d p bs at n past z) ∙ ap (λ t. and_then t (λ r. found (rest (only r.value) r.left r.place))) (r.1 d);
        number = r.2;
      }
