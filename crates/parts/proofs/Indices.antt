-- The index of a shared peak, from the rank of its class.
use Rattle.std.proofs.Common.{◌≡◌, ℕ, zero, suc, ◌+◌, ◌<◌, ◌≤◌, true, false, cond, ◌&&◌, ltb, ◌⊎◌, List, [], ◌∷◌, length, get_or, ℤ, sym, ap, ◌∙◌, inl, inr, arith}
use mathlib.Core.Option.{Option, none, some}
use Rattle.std.proofs.lemmas.Bool.{cases_lt, lt-ltb, le-ltb, ltb-true, and_parts, and_from, and_left, and_right, cond-true, cond-false}
use Rattle.std.proofs.lemmas.Bool.Decides.{nat_tests}
use Rattle.format.specs.Bytes.{same_int, same_list}
use Rattle.format.specs.Glyphs.{same_peak, peak_score, peak_rank, place_of_peak, shared_index, shared_count}
use Rattle.format.specs.Ranked.{count_below, first, is_first, before}
use Rattle.format.proofs.Counts.{count_more}
use Rattle.format.proofs.Ranks.{rank_below}
use Rattle.counts.specs.Ranking.{rank_of}
use Rattle.counts.specs.Rows.{peaks_sameness}
use Rattle.counts.specs.Sameness.{Sameness}
use Rattle.counts.proofs.Classes.{first_is_least, first_first, is_first_yes}

-- where a peak is first seen
place_least : (ps : List (List ℤ)) (p : List ℤ) (n k : ℕ) → k < length ps → same_list same_int (get_or ps k []) p ≡ true → ((j : ℕ) → j < k → same_list same_int (get_or ps j []) p ≡ false) → place_of_peak ps p n ≡ n + k
place_least [] p n k l t u = absurd (omega arith)
place_least (q ∷ qs) p n zero l t u = rw t (omega arith)
place_least (q ∷ qs) p n (suc k) l t u =
    rw (u 0 (omega arith)) (place_least qs p (suc n) k (omega arith) t (λ j m. u (suc j) (omega arith)) ∙ omega arith)

module _ (ps : List (List ℤ)) (i : ℕ) (l : i < length ps) where
  abbrev class : ℕ
  class = first (length ps) (same_peak ps) i

  sameness : Sameness (same_peak ps) (length ps)
  sameness = peaks_sameness ps (length ps)

  place_is : place_of_peak ps (get_or ps i []) 0 ≡ class
  place_is =
      let f = first_is_least sameness i l in
      place_least ps (get_or ps i []) 0 class f.inside f.passes f.least ∙ omega arith

  inside : class < length ps
  inside = (first_is_least sameness i l).inside

  head : is_first (length ps) (same_peak ps) class ≡ true
  head = is_first_yes (length ps) (same_peak ps) class (first_first sameness i l)

  -- how many classes occur more than once
  abbrev repeated : ℕ
  repeated = count_below (length ps) (λ c. is_first (length ps) (same_peak ps) c && ltb 1 (peak_score ps c))

  goes_before : (d : ℕ) → peak_score ps class ≤ 1 → 1 < peak_score ps d → before (peak_score ps) d class ≡ true
  goes_before d few more = grind (arith, nat_tests)

  -- a class that ranks among them is one of them
  repeats : peak_rank ps class < repeated → 1 < peak_score ps class
  repeats r = by (cases_lt 1 (peak_score ps class))
    where
      by : (1 < peak_score ps class) ⊎ (peak_score ps class ≤ 1) → 1 < peak_score ps class
      by (inl k) = k
      by (inr k) =
          let m = count_more (length ps) (λ c. is_first (length ps) (same_peak ps) c && ltb 1 (peak_score ps c)) (λ c. is_first (length ps) (same_peak ps) c && before (peak_score ps) c class)
          (λ d _ e.
          let p = and_parts (is_first (length ps) (same_peak ps) d) (ltb 1 (peak_score ps d)) e in
          and_from (is_first (length ps) (same_peak ps) d) (before (peak_score ps) d class) p.0 (goes_before d k (ltb-true 1 (peak_score ps d) p.1))) in
          absurd (omega arith)

  -- the index of the class of a first item
  abbrev indexed : ℕ → Option ℕ
  indexed c = cond (ltb 1 (peak_score ps c) && ltb (peak_rank ps c) 4095) (some (peak_rank ps c)) none

  index_is : shared_index ps (get_or ps i []) ≡ indexed class
  index_is = ap (λ (c : ℕ). indexed c) place_is

  pub index_some : (r : ℕ) → r ≡ rank_of (length ps) (same_peak ps) (peak_score ps) i → r < shared_count ps → shared_index ps (get_or ps i []) ≡ some r
  index_some r e h =
      let k : peak_rank ps class < repeated = omega arith in
      let few : peak_rank ps class < 4095 = omega arith in
      index_is
      ∙ cond-true (ltb 1 (peak_score ps class) && ltb (peak_rank ps class) 4095) (some (peak_rank ps class)) none
      (and_from (ltb 1 (peak_score ps class)) (ltb (peak_rank ps class) 4095) (lt-ltb 1 (peak_score ps class) (repeats k)) (lt-ltb (peak_rank ps class) 4095 few))
      ∙ ap (λ (n : ℕ). some n) (sym e)

  pub index_none : (r : ℕ) → r ≡ rank_of (length ps) (same_peak ps) (peak_score ps) i → shared_count ps ≤ r → shared_index ps (get_or ps i []) ≡ none
  index_none r e h =
      index_is ∙ cond-false (ltb 1 (peak_score ps class) && ltb (peak_rank ps class) 4095) (some (peak_rank ps class)) none (by (cases_lt 1 (peak_score ps class)))
    where
      by : (1 < peak_score ps class) ⊎ (peak_score ps class ≤ 1) → (ltb 1 (peak_score ps class) && ltb (peak_rank ps class) 4095) ≡ false
      by (inl k) =
          let b = rank_below (length ps) (same_peak ps) (peak_score ps) 1 class inside head k in
          and_right (ltb 1 (peak_score ps class)) (ltb (peak_rank ps class) 4095) (le-ltb (peak_rank ps class) 4095 (omega arith))
      by (inr k) = and_left (ltb 1 (peak_score ps class)) (ltb (peak_rank ps class) 4095) (le-ltb 1 (peak_score ps class) k)
