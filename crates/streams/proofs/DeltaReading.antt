-- A cursor over deltas has ahead what the format reads.
use Rattle.std.proofs.Common.{◌≡◌, ℕ, zero, suc, ◌+◌, ◌-◌, ◌*◌, ◌%◌, Bool, true, false, cond, ltb, leb, List, [], ◌∷◌, ◌++◌, drop, replicate, ℤ, pos, Some, Ok, Err, Result, sym, refl, ap, ◌∙◌, subst, add-zero, arith}
use mathlib.Core.Option.{Option, none, some}
use Rattle.format.specs.Account.{Declined}
use Rattle.format.specs.Bytes.{pair, signed8, signed16}
use Rattle.format.specs.Packed.{zeros, bytes, words}
use Rattle.format.specs.Streams.{Rest, rest, Read, found, fault, fault_if, and_then, cons_to, read_bytes, read_words, read_values, run_kind, held, delta_run, kind_run, delta_runs, read_deltas}
use Rattle.streams.specs.declared.fault.StreamFault.TheVariants.{Deltas}
use Rattle.streams.specs.declared.fault.StreamFault.{StreamFault}
use Rattle.kinds.specs.declared.delta.DeltaKind.{DeltaKind}
use Rattle.kinds.specs.declared.delta.DeltaKind.TheVariants.{Zeros, Bytes, Words}
use Rattle.streams.specs.declared.deltas.DeltaPacking.{DeltaPacking}
use Rattle.streams.specs.Ahead.{Ahead, ends, give_all, one_more, read_ahead}
use Rattle.streams.specs.Runs.{value_ahead, run_ahead, begun_ahead, control_ahead, runs_ahead, PastRuns}
use Rattle.streams.specs.Deltas.{kind_of, run_in, delta_in, delta_form, deltas_from, DeltaCursor, deltas_ahead, PastDeltas}
use Rattle.streams.proofs.Steps.{Exactly, exact_length}
use Rattle.streams.proofs.Readings.{read_all, read_none, read_if, push, whole, after_byte, after_word}
use Rattle.streams.proofs.RunSteps.{exact_stream}

module _ (d : ℕ → ℕ → Declined) (bs : List ℕ) where
  -- the values of a run with its control at `control`, and what is read from the place past it
  abbrev from_run : ℕ → Option (List ℤ × List ℕ) → (List ℕ → ℕ → Read (Rest (List ℤ))) → ℕ → Read (Rest (List ℤ))
  from_run control none follow past = fault (d 23 control)
  from_run control (some r) follow past = and_then (follow r.1 past) (λ s. found (rest (r.0 ++ s.value) s.left s.place))

  run_is : (at : ℕ) (o : Option (List ℤ × List ℕ)) (follow : List ℕ → ℕ → Read (Rest (List ℤ))) (size : ℕ) → delta_run d at o follow size ≡ from_run at o follow (at + size)
  run_is at none follow size = refl
  run_is at (some r) follow size = refl

  module _ (control : ℕ) (more : DeltaPacking → ℕ → Ahead ℤ) (follow : List ℕ → ℕ → Read (Rest (List ℤ))) (h : (q : DeltaPacking) (past : ℕ) → read_ahead d bs (more q past) ≡ follow (drop past bs) past) where
    from_cons : (x : ℤ) (o : Option (List ℤ × List ℕ)) (past : ℕ) → from_run control (cons_to x o) follow past ≡ one_more x (from_run control o follow past)
    from_cons x none past = refl
    from_cons x (some r) past = push x r.0 (follow r.1 past)

    run_zeros : (q : DeltaPacking) (n at : ℕ) → read_ahead d bs (run_ahead delta_form bs Zeros control n q at more) ≡ from_run control (read_values zeros n (drop at bs)) follow at
    run_zeros q zero at = h q at ∙ sym (whole (follow (drop at bs) at))
    run_zeros q (suc n) at = rw (add-zero at) (ap (one_more (pos 0)) (run_zeros q n at)) ∙ sym (push (pos 0) (replicate n (pos 0)) (follow (drop at bs) at))

    run_bytes : (q : DeltaPacking) (n at : ℕ) → read_ahead d bs (run_ahead delta_form bs Bytes control n q at more) ≡ from_run control (read_bytes signed8 n (drop at bs)) follow (at + n)
    run_bytes q zero at = rw add-zero (h q at ∙ sym (whole (follow (drop at bs) at)))
    run_bytes q (suc n) at = by (drop at bs) refl (run_bytes q n (at + 1))
      where
        by : (l : List ℕ) → drop at bs ≡ l → read_ahead d bs (run_ahead delta_form bs Bytes control n q (at + 1) more) ≡ from_run control (read_bytes signed8 n (drop (at + 1) bs)) follow (at + 1 + n) →
            read_ahead d bs (value_ahead delta_form bs control (delta_in q (at + 1) (read_values bytes 1 l)) (λ q past. run_ahead delta_form bs Bytes control n q past more)) ≡ from_run control (read_bytes signed8 (suc n) l) follow (at + suc n)
        by [] e i = refl
        by (b ∷ r) e i =
            let f : at + suc n ≡ at + 1 + n = omega arith in
            rw (f, ← after_byte bs at b r e) (ap (one_more (signed8 b)) i ∙ sym (from_cons (signed8 b) (read_bytes signed8 n (drop (at + 1) bs)) (at + 1 + n)))

    run_words : (q : DeltaPacking) (n at : ℕ) → read_ahead d bs (run_ahead delta_form bs Words control n q at more) ≡ from_run control (read_words signed16 n (drop at bs)) follow (at + 2 * n)
    run_words q zero at = rw add-zero (h q at ∙ sym (whole (follow (drop at bs) at)))
    run_words q (suc n) at = by (drop at bs) refl (run_words q n (at + 2))
      where
        by : (l : List ℕ) → drop at bs ≡ l → read_ahead d bs (run_ahead delta_form bs Words control n q (at + 2) more) ≡ from_run control (read_words signed16 n (drop (at + 2) bs)) follow (at + 2 + 2 * n) →
            read_ahead d bs (value_ahead delta_form bs control (delta_in q (at + 2) (read_values words 1 l)) (λ q past. run_ahead delta_form bs Words control n q past more)) ≡ from_run control (read_words signed16 (suc n) l) follow (at + 2 * suc n)
        by [] e i = refl
        by (b ∷ []) e i = refl
        by (b ∷ (b' ∷ r)) e i =
            let f : at + 2 * suc n ≡ at + 2 + 2 * n = omega arith in
            rw (f, ← after_word bs at b b' r e) (ap (one_more (signed16 (pair b b'))) i ∙ sym (from_cons (signed16 (pair b b')) (read_words signed16 n (drop (at + 2) bs)) (at + 2 + 2 * n)))

    run_read : (k : DeltaKind) (q : DeltaPacking) (n at : ℕ) → read_ahead d bs (run_ahead delta_form bs k control n q at more) ≡ from_run control (read_values (kind_of k) n (drop at bs)) follow (at + held (kind_of k) n)
    run_read Zeros q n at = rw (add-zero at) (run_zeros q n at)
    run_read Bytes q n at = run_bytes q n at
    run_read Words q n at = run_words q n at

  -- a run by its control
  module _ (at k : ℕ) (q : DeltaPacking) (more : ℕ → DeltaPacking → ℕ → Ahead ℤ) (follow : List ℕ → ℕ → Read (Rest (List ℤ)))
      (c : ℕ) (h : (q : DeltaPacking) (past : ℕ) → read_ahead d bs (more (c % 64) q past) ≡ follow (drop past bs) past) where
    some_read : (k' : DeltaKind) → read_ahead d bs (begun_ahead delta_form bs (Some (k', c % 64)) at k q more)
        ≡ fault_if (ltb k (suc (c % 64))) (d 23 at) (kind_run d at (suc (c % 64)) (drop (at + 1) bs) (some (kind_of k')) follow)
    some_read k' =
        let n = suc (c % 64) in
        let f : at + 1 + held (kind_of k') n ≡ at + (1 + held (kind_of k') n) = omega arith in
        read_if d bs (ltb k n) (Deltas at) (run_ahead delta_form bs k' at n q (at + 1) (more (c % 64)))
        ∙ ap (fault_if (ltb k n) (d 23 at)) ((rw f at (run_read at (more (c % 64)) follow h k' q n (at + 1))) ∙ sym (run_is at (read_values (kind_of k') n (drop (at + 1) bs)) follow (1 + held (kind_of k') n)))

    none_read : fault (d 23 at) ≡ fault_if (ltb k (suc (c % 64))) (d 23 at) (kind_run d at (suc (c % 64)) (drop (at + 1) bs) none follow)
    none_read = by (ltb k (suc (c % 64)))
      where
        by : (b : Bool) → fault (d 23 at) ≡ fault_if b (d 23 at) (kind_run d at (suc (c % 64)) (drop (at + 1) bs) none follow)
        by true = refl
        by false = refl

    begun_read : read_ahead d bs (begun_ahead delta_form bs (run_in (c % 64) (run_kind c)) at k q more) ≡ fault_if (ltb k (suc (c % 64))) (d 23 at) (kind_run d at (suc (c % 64)) (drop (at + 1) bs) (run_kind c) follow)
    begun_read = by (leb 192 c) (leb 128 c) (leb 64 c)
      where
        by : (x y z : Bool) → read_ahead d bs (begun_ahead delta_form bs (run_in (c % 64) (cond x none (some (cond y zeros (cond z words bytes))))) at k q more)
            ≡ fault_if (ltb k (suc (c % 64))) (d 23 at) (kind_run d at (suc (c % 64)) (drop (at + 1) bs) (cond x none (some (cond y zeros (cond z words bytes)))) follow)
        by true y z = none_read
        by false true z = some_read Zeros
        by false false true = some_read Words
        by false false false = some_read Bytes

  runs_read : (m k : ℕ) (q : DeltaPacking) (at : ℕ) → read_ahead d bs (runs_ahead delta_form bs m k q at) ≡ delta_runs d m k (drop at bs) at
  runs_read zero k q at = refl
  runs_read (suc m) zero q at = refl
  runs_read (suc m) (suc k) q at = by (drop at bs) refl (λ n q past. runs_read m (k - n) q past)
    where
      by : (l : List ℕ) → drop at bs ≡ l → ((n : ℕ) (q : DeltaPacking) (past : ℕ) → read_ahead d bs (runs_ahead delta_form bs m (k - n) q past) ≡ delta_runs d m (k - n) (drop past bs) past) →
          read_ahead d bs (control_ahead delta_form bs l at (suc k) q (λ n q past. runs_ahead delta_form bs m (k - n) q past)) ≡ delta_runs d (suc m) (suc k) l at
      by [] e i = refl
      by (c ∷ r) e i =
          let n = c % 64 in
          let s : suc k - suc n ≡ k - n = omega arith in
          rw (s, ← after_byte bs at c r e)
          (begun_read at (suc k) q (λ n q past. runs_ahead delta_form bs m (k - n) q past) (λ b a. delta_runs d m (k - n) b a) c (i n))

  pub deltas_read : (k at : ℕ) → read_ahead d bs (deltas_from bs k at) ≡ read_deltas d k (drop at bs) at
  deltas_read k at = runs_read k k (record {}) at

-- the place past a stream that ends, and the fault of one that does not
pub past_is : (bs : List ℕ) (at k : ℕ) (c : DeltaCursor) (r : Result ℕ StreamFault) → deltas_ahead c ≡ deltas_from bs k at → PastRuns delta_form c r → PastDeltas bs at k r
past_is bs at k c (Ok past) a p =
    let e : deltas_from bs k at ≡ give_all p.0 (ends past) = sym a ∙ p.1 in (
      p.0,
      (λ d. sym (deltas_read d bs k at) ∙ ap (read_ahead d bs) e ∙ read_all d bs p.0 past),
      exact_length p.0 past k (subst (λ (a : Ahead ℤ). Exactly a k) e (exact_stream delta_form bs k (record {}) at)),
    )
past_is bs at k c (Err f) a p = λ d. sym (deltas_read d bs k at) ∙ ap (read_ahead d bs) (sym a ∙ p.1) ∙ read_none d bs p.0 f
