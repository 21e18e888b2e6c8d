-- Reading deltas stays inside the bytes, and finds as many as asked for.
use Rattle.std.proofs.Common.{◌≡◌, ℕ, zero, suc, ◌+◌, ◌-◌, ◌%◌, ◌≤◌, ltb, List, [], ◌∷◌, ◌++◌, length, ℤ, refl, arith, length-append}
use mathlib.Core.Option.{Option, none, some}
use Rattle.std.proofs.lemmas.Bool.{ltb-false}
use Rattle.format.specs.Account.{Declined}
use Rattle.format.specs.Packed.{Kind}
use Rattle.format.specs.Streams.{Read, Rest, rest, read_values, run_kind, held, kind_run, delta_run, delta_runs, read_deltas, found, fault}
use Rattle.format.specs.Found.{Stays, FailsInside}
use Rattle.format.proofs.Outcomes.{Outcome, of_found, of_fault, outcome_then, outcome_if}
use Rattle.format.proofs.Fronts.{Front, values_front}
use Rattle.format.proofs.Inside.{stays_at, stays_after, fails_at, fails_after}

module _ (d : ℕ → ℕ → Declined) where
  abbrev pub AsMany : ℕ → List ℕ → ℕ → Rest (List ℤ) → Type 0
  AsMany k bs at s = Stays bs at s × (length s.value ≡ k)

  abbrev pub DeltasTold : ℕ → List ℕ → ℕ → Read (Rest (List ℤ)) → Type 0
  DeltasTold k bs at r = Outcome (AsMany k bs at) (FailsInside d 23 bs at) r

  -- one run, and then the others
  delta_run_told :
      (k n size c : ℕ) (bs : List ℕ) (at : ℕ) (o : Option (List ℤ × List ℕ)) (more : List ℕ → ℕ → Read (Rest (List ℤ))) → n ≤ k →
      Front n size bs o → ((b : List ℕ) (a : ℕ) → DeltasTold (k - n) b a (more b a)) → DeltasTold k (c ∷ bs) at (delta_run d at o more (1 + size))
  delta_run_told k n size c bs at none more le f ih = fails_at d 23 (c ∷ bs) at
  delta_run_told k n size c bs at (some r) more le f ih =
      outcome_then (AsMany (k - n) r.1 (at + (1 + size))) (AsMany k (c ∷ bs) at) (FailsInside d 23 r.1 (at + (1 + size))) (FailsInside d 23 (c ∷ bs) at)
      (more r.1 (at + (1 + size))) (λ s. found (rest (r.0 ++ s.value) s.left s.place))
      (ih r.1 (at + (1 + size)))
      (fails_after c n size bs r.0 r.1 at f d 23)
      (λ s h. (
        stays_after c n size bs r.0 r.1 at f s (r.0 ++ s.value) h.0,
        omega (arith, length-append r.0 s.value, f.as_many_items, h.1),
      ))

  kind_run_told :
      (k n c : ℕ) (bs : List ℕ) (at : ℕ) (o : Option Kind) (more : List ℕ → ℕ → Read (Rest (List ℤ))) → n ≤ k →
      ((b : List ℕ) (a : ℕ) → DeltasTold (k - n) b a (more b a)) → DeltasTold k (c ∷ bs) at (kind_run d at n bs o more)
  kind_run_told k n c bs at none more le ih = fails_at d 23 (c ∷ bs) at
  kind_run_told k n c bs at (some kd) more le ih = delta_run_told k n (held kd n) c bs at (read_values kd n bs) more le (values_front kd n bs) ih

  delta_runs_told : (m k : ℕ) (bs : List ℕ) (at : ℕ) → k ≤ m → DeltasTold k bs at (delta_runs d m k bs at)
  delta_runs_told zero k bs at le = (stays_at [] bs at, omega arith)
  delta_runs_told (suc m) zero bs at le = (stays_at [] bs at, refl)
  delta_runs_told (suc m) (suc k) [] at le = fails_at d 23 [] at
  delta_runs_told (suc m) (suc k) (c ∷ bs) at le =
      let n = suc (c % 64) in
      let more : List ℕ → ℕ → Read (Rest (List ℤ)) = λ b a. delta_runs d m (suc k - n) b a in
      outcome_if (AsMany (suc k) (c ∷ bs) at) (FailsInside d 23 (c ∷ bs) at) (ltb (suc k) n) (d 23 at) (kind_run d at n bs (run_kind c) more)
      (λ e. fails_at d 23 (c ∷ bs) at)
      (λ e. kind_run_told (suc k) n c bs at (run_kind c) more (ltb-false (suc k) n e) (λ b a. delta_runs_told m (suc k - n) b a (omega arith)))

pub deltas_told : (d : ℕ → ℕ → Declined) (k : ℕ) (bs : List ℕ) (at : ℕ) → DeltasTold d k bs at (read_deltas d k bs at)
deltas_told d k bs at = delta_runs_told d k k bs at (omega arith)

pub deltas_stay_inside :
    (d : ℕ → ℕ → Declined) (k : ℕ) (bs : List ℕ) (at : ℕ) →
    ((s : Rest (List ℤ)) → read_deltas d k bs at ≡ found s → Stays bs at s × (length s.value ≡ k))
    × ((x : Declined) → read_deltas d k bs at ≡ fault x → FailsInside d 23 bs at x)
deltas_stay_inside d k bs at = (
  (λ s e. of_found (AsMany d k bs at) (FailsInside d 23 bs at) (read_deltas d k bs at) s (deltas_told d k bs at) e),
  (λ x e. of_fault (AsMany d k bs at) (FailsInside d 23 bs at) (read_deltas d k bs at) x (deltas_told d k bs at) e),
)
