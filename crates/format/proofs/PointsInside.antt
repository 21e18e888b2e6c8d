-- Reading points stays inside the bytes, and finds points in range.
use Rattle.std.proofs.Common.{◌≡◌, ℕ, zero, suc, ◌+◌, ◌-◌, ◌*◌, ◌%◌, ◌<◌, ◌≤◌, true, cond, not, ◌&&◌, eqb, ltb, leb, List, [], ◌∷◌, ◌++◌, length, refl, arith, length-append}
use mathlib.Core.Option.{Option, none, some}
use Rattle.std.proofs.lemmas.Bool.{ltb-false, eqb-false, not-false, and_from, and_parts}
use Rattle.format.specs.Bytes.{pair}
use Rattle.format.specs.Account.{Declined}
use Rattle.format.specs.Packed.{Points, only}
use Rattle.format.specs.Streams.{Read, Rest, rest, rises, points_after, last_of, read_gaps, point_run, point_runs, counted_points, long_count, read_points, and_then, found, fault}
use Rattle.format.specs.Laws.{InRange}
use Rattle.format.specs.Found.{Stays, FailsInside}
use Rattle.format.proofs.Outcomes.{Outcome, of_found, of_fault, outcome_then, outcome_if, outcome_cond}
use Rattle.format.proofs.Fronts.{Front, gaps_front}
use Rattle.format.proofs.Inside.{stays_at, stays_after, stays_within, fails_at, fails_after, fails_within}

points_count : (from : ℕ) (gs : List ℕ) → length (points_after from gs) ≡ length gs
points_count from [] = refl
points_count from (g ∷ gs) = let i = points_count (from + g) gs in omega arith

-- points that rise after the last of those before them
rises_on : (low p q : ℕ) (qs ss : List ℕ) → rises low p (q ∷ qs) ≡ true → rises (suc (last_of q qs)) p ss ≡ true → rises low p ((q ∷ qs) ++ ss) ≡ true
rises_on low p q [] ss h k =
    let a = and_parts (leb low q) (ltb q p && true) h in
    let b = and_parts (ltb q p) true a.1 in
    and_from (leb low q) (ltb q p && rises (suc q) p ss) a.0 (and_from (ltb q p) (rises (suc q) p ss) b.0 k)
rises_on low p q (r ∷ qs) ss h k =
    let a = and_parts (leb low q) (ltb q p && rises (suc q) p (r ∷ qs)) h in
    let b = and_parts (ltb q p) (rises (suc q) p (r ∷ qs)) a.1 in
    and_from (leb low q) (ltb q p && rises (suc q) p ((r ∷ qs) ++ ss)) a.0
    (and_from (ltb q p) (rises (suc q) p ((r ∷ qs) ++ ss)) b.0 (rises_on (suc q) p r qs ss b.1 k))

run_rises : (low p from : ℕ) (gs ss : List ℕ) → 0 < length gs → rises low p (points_after from gs) ≡ true →
    rises (suc (last_of from (points_after from gs))) p ss ≡ true → rises low p (points_after from gs ++ ss) ≡ true
run_rises low p from [] ss some_gaps h k = absurd (omega arith)
run_rises low p from (g ∷ gs) ss some_gaps h k = rises_on low p (from + g) (points_after (from + g) gs) ss h k

module _ (d : ℕ → ℕ → Declined) (p : ℕ) where
  -- k points from low on
  record Rising (k low : ℕ) (bs : List ℕ) (at : ℕ) (s : Rest (List ℕ)) : Type 0 where
    stays : Stays bs at s
    as_many : length s.value ≡ k
    rising : rises low p s.value ≡ true

  abbrev RunsTold : ℕ → ℕ → List ℕ → ℕ → Read (Rest (List ℕ)) → Type 0
  RunsTold k low bs at r = Outcome (Rising k low bs at) (FailsInside d 22 bs at) r

  -- one run, and then the others
  point_run_told :
      (k n size c from low : ℕ) (bs : List ℕ) (at : ℕ) (o : Option (List ℕ × List ℕ)) (more : ℕ → ℕ → List ℕ → ℕ → Read (Rest (List ℕ))) → n ≤ k → 0 < n →
      Front n size bs o → ((f l : ℕ) (b : List ℕ) (a : ℕ) → RunsTold (k - n) l b a (more f l b a)) →
      RunsTold k low (c ∷ bs) at (point_run d p from low at o more (1 + size))
  point_run_told k n size c from low bs at none more le some_gaps f ih = fails_at d 22 (c ∷ bs) at
  point_run_told k n size c from low bs at (some r) more le some_gaps f ih =
      let qs = points_after from r.0 in
      let last = last_of from qs in
      let then : Rest (List ℕ) → Read (Rest (List ℕ)) = λ s. found (rest (qs ++ s.value) s.left s.place) in
      outcome_if (Rising k low (c ∷ bs) at) (FailsInside d 22 (c ∷ bs) at) (not (rises low p qs)) (d 22 at)
      (and_then (more last (suc last) r.1 (at + (1 + size))) then)
      (λ e. fails_at d 22 (c ∷ bs) at)
      (λ e.
      outcome_then (Rising (k - n) (suc last) r.1 (at + (1 + size))) (Rising k low (c ∷ bs) at)
      (FailsInside d 22 r.1 (at + (1 + size))) (FailsInside d 22 (c ∷ bs) at)
      (more last (suc last) r.1 (at + (1 + size))) then
      (ih last (suc last) r.1 (at + (1 + size)))
      (fails_after c n size bs r.0 r.1 at f d 22)
      (λ s h. record {
        stays = stays_after c n size bs r.0 r.1 at f s (qs ++ s.value) h.stays;
        as_many = omega (arith, length-append qs s.value, points_count from r.0, f.as_many_items, h.as_many);
        rising = run_rises low p from r.0 s.value (omega (arith, f.as_many_items)) (not-false (rises low p qs) e) h.rising;
      }))

  point_runs_told : (m k from low : ℕ) (bs : List ℕ) (at : ℕ) → k ≤ m → RunsTold k low bs at (point_runs d m p k from low bs at)
  point_runs_told zero k from low bs at le = record { stays = stays_at [] bs at; as_many = omega arith; rising = refl }
  point_runs_told (suc m) zero from low bs at le = record { stays = stays_at [] bs at; as_many = refl; rising = refl }
  point_runs_told (suc m) (suc k) from low [] at le = fails_at d 22 [] at
  point_runs_told (suc m) (suc k) from low (c ∷ bs) at le =
      let n = suc (c % 128) in
      let size = cond (leb 128 c) (2 * n) n in
      let more : ℕ → ℕ → List ℕ → ℕ → Read (Rest (List ℕ)) = λ f l b a. point_runs d m p (suc k - n) f l b a in
      outcome_if (Rising (suc k) low (c ∷ bs) at) (FailsInside d 22 (c ∷ bs) at) (ltb (suc k) n) (d 22 at)
      (point_run d p from low at (read_gaps (leb 128 c) n bs) more (1 + size))
      (λ e. fails_at d 22 (c ∷ bs) at)
      (λ e. point_run_told (suc k) n size c from low bs at (read_gaps (leb 128 c) n bs) more (ltb-false (suc k) n e) (omega arith) (gaps_front (leb 128 c) n bs)
      (λ f l b a. point_runs_told m (suc k - n) f l b a (omega arith)))

  abbrev pub InPlace : List ℕ → ℕ → Rest Points → Type 0
  InPlace bs at s = Stays bs at s × InRange p s.value

  abbrev pub PointsTold : List ℕ → ℕ → Read (Rest Points) → Type 0
  PointsTold bs at r = Outcome (InPlace bs at) (FailsInside d 22 bs at) r

  -- after the bytes of the count
  counted_told : (k : ℕ) (count bs : List ℕ) (at j : ℕ) → 0 < k → length count ≡ j → PointsTold (count ++ bs) at (counted_points d p k bs (at + j))
  counted_told k count bs at j some_points e =
      outcome_then (Rising k 0 bs (at + j)) (InPlace (count ++ bs) at) (FailsInside d 22 bs (at + j)) (FailsInside d 22 (count ++ bs) at)
      (point_runs d k p k 0 0 bs (at + j)) (λ r. found (rest (only r.value) r.left r.place))
      (point_runs_told k k 0 0 bs (at + j) (omega arith))
      (λ x h. fails_within d 22 count bs at j x e h)
      (λ s h. (stays_within count bs at j s (only s.value) e h.stays, (omega (arith, h.as_many), h.rising)))

  long_told : (c : ℕ) (bs : List ℕ) (at : ℕ) → PointsTold (c ∷ bs) at (long_count d p c bs at)
  long_told c [] at = fails_at d 22 (c ∷ []) at
  long_told c (b ∷ bs) at =
      outcome_if (InPlace (c ∷ (b ∷ bs)) at) (FailsInside d 22 (c ∷ (b ∷ bs)) at) (eqb (pair (c - 128) b) 0) (d 22 at) (counted_points d p (pair (c - 128) b) bs (at + 2))
      (λ e. fails_at d 22 (c ∷ (b ∷ bs)) at)
      (λ e. counted_told (pair (c - 128) b) (c ∷ (b ∷ [])) bs at 2 (not_zero (pair (c - 128) b) (eqb-false (pair (c - 128) b) 0 e)) refl)
    where
      not_zero : (k : ℕ) → (k ≡ 0 → ⊥) → 0 < k
      not_zero zero h = absurd (h refl)
      not_zero (suc k) h = omega arith

  pub points_told : (bs : List ℕ) (at : ℕ) → PointsTold bs at (read_points d p bs at)
  points_told [] at = fails_at d 22 [] at
  points_told (zero ∷ bs) at = (record { used = 0 ∷ []; used_then_left = refl; moved_by_used = refl }, tt)
  points_told (suc c ∷ bs) at =
      outcome_cond (InPlace (suc c ∷ bs) at) (FailsInside d 22 (suc c ∷ bs) at) (leb 127 c) (long_count d p (suc c) bs at) (counted_points d p (suc c) bs (at + 1))
      (λ e. long_told (suc c) bs at)
      (λ e. counted_told (suc c) (suc c ∷ []) bs at 1 (omega arith) refl)

  pub points_stay_inside :
      (bs : List ℕ) (at : ℕ) →
      ((s : Rest Points) → read_points d p bs at ≡ found s → Stays bs at s × InRange p s.value)
      × ((x : Declined) → read_points d p bs at ≡ fault x → FailsInside d 22 bs at x)
  points_stay_inside bs at = (
    (λ s e. of_found (InPlace bs at) (FailsInside d 22 bs at) (read_points d p bs at) s (points_told bs at) e),
    (λ x e. of_fault (InPlace bs at) (FailsInside d 22 bs at) (read_points d p bs at) x (points_told bs at) e),
  )
