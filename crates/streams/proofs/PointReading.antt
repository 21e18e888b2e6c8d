-- A cursor over points has ahead what the format reads.
use Rattle.std.proofs.Common.{◌≡◌, ℕ, zero, suc, ◌+◌, ◌-◌, ◌*◌, ◌%◌, Bool, true, false, not, ◌&&◌, ltb, leb, cond, List, [], ◌∷◌, ◌++◌, drop, Some, None, Ok, Err, Result, sym, refl, ap, ◌∙◌, subst, add-zero, arith}
use mathlib.Core.Option.{Option, none, some}
use Rattle.format.specs.Account.{Declined}
use Rattle.format.specs.Bytes.{pair}
use Rattle.format.specs.Streams.{Rest, rest, Read, found, fault, fault_if, and_then, cons_to, read_bytes, read_words, read_gaps, points_after, last_of, rises, point_run, point_runs}
use Rattle.streams.specs.declared.fault.StreamFault.{StreamFault}
use Rattle.streams.specs.declared.fault.StreamFault.TheVariants.{Points}
use Rattle.streams.specs.declared.runs.Unpacked.{Unpacked}
use Rattle.kinds.specs.declared.point.PointKind.TheVariants.{Bytes, Words}
use Rattle.streams.specs.declared.points.PointPacking.{PointPacking}
use Rattle.streams.specs.Ahead.{Ahead, ends, gives, give_all, fails_if, one_more, read_ahead}
use Rattle.streams.specs.Runs.{value_ahead, run_ahead, control_ahead, runs_ahead, PastRuns}
use Rattle.streams.specs.Points.{gaps_held, gap_in, point_at, point_form, points_from, PointCursor, points_ahead, PastPointRuns}
use Rattle.streams.proofs.Steps.{Exactly, exact_length}
use Rattle.streams.proofs.Readings.{read_all, read_none, read_if, push, whole, after_byte, after_word}
use Rattle.streams.proofs.RunSteps.{exact_stream}

-- the least point that may follow
abbrev next_low : ℕ → List ℕ → ℕ
next_low low [] = low
next_low low (q ∷ qs) = suc (last_of q qs)

low_after : (q : ℕ) (qs : List ℕ) → next_low (suc q) qs ≡ suc (last_of q qs)
low_after q [] = refl
low_after q (r ∷ qs) = refl

-- a value that is given where the test passes
value_if : (bs : List ℕ) (b : Bool) (control : ℕ) (u : Unpacked ℕ PointPacking) (more : PointPacking → ℕ → Ahead ℕ) →
    value_ahead point_form bs control (cond b (Some u) None) more ≡ fails_if (not b) (Points control) (gives u.value (more u.packing u.past))
value_if bs true control u more = refl
value_if bs false control u more = refl

module _ (d : ℕ → ℕ → Declined) (p : ℕ) (bs : List ℕ) where
  -- after the last point `from`
  abbrev at_point : ℕ → ℕ → PointPacking
  at_point from low = record { p = p; from = from; low = low }

  -- the points of a run with its control at `control`, and what is read from the place past it
  abbrev from_run : ℕ → ℕ → ℕ → Option (List ℕ × List ℕ) → (ℕ → ℕ → List ℕ → ℕ → Read (Rest (List ℕ))) → ℕ → Read (Rest (List ℕ))
  from_run control from low none follow past = fault (d 22 control)
  from_run control from low (some r) follow past =
      fault_if (not (rises low p (points_after from r.0))) (d 22 control)
      (and_then (follow (last_of from (points_after from r.0)) (next_low low (points_after from r.0)) r.1 past)
      (λ s. found (rest (points_after from r.0 ++ s.value) s.left s.place)))

  -- a run is never empty
  run_is : (at from low g : ℕ) (o : Option (List ℕ × List ℕ)) (follow : ℕ → ℕ → List ℕ → ℕ → Read (Rest (List ℕ))) (size : ℕ) →
      point_run d p from low at (cons_to g o) follow size ≡ from_run at from low (cons_to g o) follow (at + size)
  run_is at from low g none follow size = refl
  run_is at from low g (some r) follow size = refl

  gaps_are : (w : Bool) (n : ℕ) (xs : List ℕ) (at from low : ℕ) (follow : ℕ → ℕ → List ℕ → ℕ → Read (Rest (List ℕ))) (size : ℕ) →
      point_run d p from low at (read_gaps w (suc n) xs) follow size ≡ from_run at from low (read_gaps w (suc n) xs) follow (at + size)
  gaps_are false n [] at from low follow size = refl
  gaps_are false n (b ∷ xs) at from low follow size = run_is at from low b (read_bytes (λ g. g) n xs) follow size
  gaps_are true n [] at from low follow size = refl
  gaps_are true n (b ∷ []) at from low follow size = refl
  gaps_are true n (b ∷ (b' ∷ xs)) at from low follow size = run_is at from low (pair b b') (read_words (λ g. g) n xs) follow size

  same : (b : Bool) (x : Declined) → fault_if {X = Rest (List ℕ)} b x (fault x) ≡ fault x
  same true x = refl
  same false x = refl

  tests : (a b t : Bool) (x : Declined) (q : ℕ) (qs : List ℕ) (r : Read (Rest (List ℕ))) →
      fault_if (not (a && (b && t))) x (and_then r (λ s. found (rest ((q ∷ qs) ++ s.value) s.left s.place)))
      ≡ fault_if (not (a && (b && true))) x (one_more q (fault_if (not t) x (and_then r (λ s. found (rest (qs ++ s.value) s.left s.place)))))
  tests true true true x q qs r = push q qs r
  tests true true false x q qs r = refl
  tests true false t x q qs r = refl
  tests false b t x q qs r = refl

  module _ (control : ℕ) (more : PointPacking → ℕ → Ahead ℕ) (follow : ℕ → ℕ → List ℕ → ℕ → Read (Rest (List ℕ)))
      (h : (q l past : ℕ) → read_ahead d bs (more (at_point q l) past) ≡ follow q l (drop past bs) past) where
    from_cons : (from low g : ℕ) (o : Option (List ℕ × List ℕ)) (past : ℕ) →
        from_run control from low (cons_to g o) follow past
        ≡ fault_if (not (rises low p ((from + g) ∷ []))) (d 22 control) (one_more (from + g) (from_run control (from + g) (suc (from + g)) o follow past))
    from_cons from low g none past = sym (same (not (rises low p ((from + g) ∷ []))) (d 22 control))
    from_cons from low g (some r) past =
        let qs = points_after (from + g) r.0 in
        rw (low_after (from + g) qs)
        (tests (leb low (from + g)) (ltb (from + g) p) (rises (suc (from + g)) p qs) (d 22 control) (from + g) qs (follow (last_of (from + g) qs) (suc (last_of (from + g) qs)) r.1 past))

    -- a gap is read, and the rest of its run
    gap_read : (from low g next : ℕ) (run : PointPacking → ℕ → Ahead ℕ) (o : Option (List ℕ × List ℕ)) (past : ℕ) →
        read_ahead d bs (run (at_point (from + g) (suc (from + g))) next) ≡ from_run control (from + g) (suc (from + g)) o follow past →
        read_ahead d bs (value_ahead point_form bs control (point_at (at_point from low) (Some (g, next))) run) ≡ from_run control from low (cons_to g o) follow past
    gap_read from low g next run o past i =
        let q = from + g in
        ap (read_ahead d bs) (value_if bs (rises low p (q ∷ [])) control (record { value = q; past = next; packing = at_point q (suc q) }) run)
        ∙ read_if d bs (not (rises low p (q ∷ []))) (Points control) (gives q (run (at_point q (suc q)) next))
        ∙ ap (λ r. fault_if (not (rises low p (q ∷ []))) (d 22 control) (one_more q r)) i
        ∙ sym (from_cons from low g o past)

    bytes_read : (n from low at : ℕ) → read_ahead d bs (run_ahead point_form bs Bytes control n (at_point from low) at more) ≡ from_run control from low (read_bytes (λ g. g) n (drop at bs)) follow (at + n)
    bytes_read zero from low at = rw add-zero (h from low at ∙ sym (whole (follow from low (drop at bs) at)))
    bytes_read (suc n) from low at = by (drop at bs) refl (λ q. bytes_read n q (suc q) (at + 1))
      where
        by : (l : List ℕ) → drop at bs ≡ l →
            ((q : ℕ) → read_ahead d bs (run_ahead point_form bs Bytes control n (at_point q (suc q)) (at + 1) more) ≡ from_run control q (suc q) (read_bytes (λ g. g) n (drop (at + 1) bs)) follow (at + 1 + n)) →
            read_ahead d bs (value_ahead point_form bs control (point_at (at_point from low) (gap_in Bytes l at)) (λ s past. run_ahead point_form bs Bytes control n s past more))
            ≡ from_run control from low (read_bytes (λ g. g) (suc n) l) follow (at + suc n)
        by [] e i = refl
        by (b ∷ r) e i =
            let f : at + suc n ≡ at + 1 + n = omega arith in
            rw (f, ← after_byte bs at b r e)
            (gap_read from low b (at + 1) (λ s past. run_ahead point_form bs Bytes control n s past more) (read_bytes (λ g. g) n (drop (at + 1) bs)) (at + 1 + n) (i (from + b)))

    words_read : (n from low at : ℕ) → read_ahead d bs (run_ahead point_form bs Words control n (at_point from low) at more) ≡ from_run control from low (read_words (λ g. g) n (drop at bs)) follow (at + 2 * n)
    words_read zero from low at = rw add-zero (h from low at ∙ sym (whole (follow from low (drop at bs) at)))
    words_read (suc n) from low at = by (drop at bs) refl (λ q. words_read n q (suc q) (at + 2))
      where
        by : (l : List ℕ) → drop at bs ≡ l →
            ((q : ℕ) → read_ahead d bs (run_ahead point_form bs Words control n (at_point q (suc q)) (at + 2) more) ≡ from_run control q (suc q) (read_words (λ g. g) n (drop (at + 2) bs)) follow (at + 2 + 2 * n)) →
            read_ahead d bs (value_ahead point_form bs control (point_at (at_point from low) (gap_in Words l at)) (λ s past. run_ahead point_form bs Words control n s past more))
            ≡ from_run control from low (read_words (λ g. g) (suc n) l) follow (at + 2 * suc n)
        by [] e i = refl
        by (b ∷ []) e i = refl
        by (b ∷ (b' ∷ r)) e i =
            let g = pair b b' in
            let f : at + 2 * suc n ≡ at + 2 + 2 * n = omega arith in
            rw (f, ← after_word bs at b b' r e)
            (gap_read from low g (at + 2) (λ s past. run_ahead point_form bs Words control n s past more) (read_words (λ g. g) n (drop (at + 2) bs)) (at + 2 + 2 * n) (i (from + g)))

    gaps_read : (w : Bool) (n from low at : ℕ) → read_ahead d bs (run_ahead point_form bs (cond w Words Bytes) control n (at_point from low) at more) ≡ from_run control from low (read_gaps w n (drop at bs)) follow (at + gaps_held w n)
    gaps_read false n from low at = bytes_read n from low at
    gaps_read true n from low at = words_read n from low at

  runs_read : (m k from low at : ℕ) → read_ahead d bs (runs_ahead point_form bs m k (at_point from low) at) ≡ point_runs d m p k from low (drop at bs) at
  runs_read zero k from low at = refl
  runs_read (suc m) zero from low at = refl
  runs_read (suc m) (suc k) from low at = by (drop at bs) refl (λ n q l past. runs_read m (k - n) q l past)
    where
      by : (xs : List ℕ) → drop at bs ≡ xs → ((n q l past : ℕ) → read_ahead d bs (runs_ahead point_form bs m (k - n) (at_point q l) past) ≡ point_runs d m p (k - n) q l (drop past bs) past) →
          read_ahead d bs (control_ahead point_form bs xs at (suc k) (at_point from low) (λ n s past. runs_ahead point_form bs m (k - n) s past)) ≡ point_runs d (suc m) p (suc k) from low xs at
      by [] e i = refl
      by (c ∷ r) e i =
          let n = c % 128 in
          let w = leb 128 c in
          let s : suc k - suc n ≡ k - n = omega arith in
          let f : at + 1 + gaps_held w (suc n) ≡ at + (1 + gaps_held w (suc n)) = omega arith in
          let follow : ℕ → ℕ → List ℕ → ℕ → Read (Rest (List ℕ)) = λ q l b a. point_runs d m p (k - n) q l b a in
          let more : PointPacking → ℕ → Ahead ℕ = λ s past. runs_ahead point_form bs m (k - n) s past in
          rw (s, ← after_byte bs at c r e)
          (read_if d bs (ltb (suc k) (suc n)) (Points at) (run_ahead point_form bs (cond w Words Bytes) at (suc n) (at_point from low) (at + 1) more)
          ∙ ap (fault_if (ltb (suc k) (suc n)) (d 22 at))
          ((rw f at (gaps_read at more follow (i n) w (suc n) from low (at + 1)))
          ∙ sym (gaps_are w n (drop (at + 1) bs) at from low follow (1 + gaps_held w (suc n)))))

  pub points_read : (k at : ℕ) → read_ahead d bs (points_from p bs k at) ≡ point_runs d k p k 0 0 (drop at bs) at
  points_read k at = runs_read k k 0 0 at

-- the place past a stream that ends, and the fault of one that does not
pub past_is : (bs : List ℕ) (at p k : ℕ) (c : PointCursor) (r : Result ℕ StreamFault) → points_ahead c ≡ points_from p bs k at → PastRuns point_form c r → PastPointRuns bs at p k r
past_is bs at p k c (Ok past) a w =
    let e : points_from p bs k at ≡ give_all w.0 (ends past) = sym a ∙ w.1 in (
      w.0,
      (λ d. sym (points_read d p bs k at) ∙ ap (read_ahead d bs) e ∙ read_all d bs w.0 past),
      exact_length w.0 past k (subst (λ (a : Ahead ℕ). Exactly a k) e (exact_stream point_form bs k (record { p = p; from = 0; low = 0 }) at)),
    )
past_is bs at p k c (Err f) a w = λ d. sym (points_read d p bs k at) ∙ ap (read_ahead d bs) (sym a ∙ w.1) ∙ read_none d bs w.0 f
