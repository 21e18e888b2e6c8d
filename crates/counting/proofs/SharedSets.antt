-- The items of the best class are the variations that have the points which their glyph shares. Assumes nothing.
use Rattle.std.proofs.Common.{◌≡◌, ℕ, zero, suc, ◌<◌, Bool, true, false, cond, ◌&&◌, eqb, ltb, List, length, get_or, sym, refl, ap, ◌∙◌, subst, arith}
use mathlib.Core.Option.{none, some}
use Rattle.std.proofs.lemmas.List.{get_or-map, length-map}
use Rattle.std.proofs.lemmas.Bool.{both_ways, and_parts, eq-eqb, ne_eqb, ltb-true}
use Rattle.format.specs.Account.{Variation}
use Rattle.format.specs.Glyphs.{point_sets, stored_points, same_set, set_score, shared_points, is_shared}
use Rattle.format.specs.Packed.{Points, every}
use Rattle.format.specs.Ranked.{count_below, first_below, first, count, is_first, rank, ranked}
use Rattle.format.proofs.Counts.{count_none, count_less}
use Rattle.format.proofs.Ranks.{ranked_below}
use Rattle.counts.specs.Sameness.{Sameness}
use Rattle.counts.specs.Marking.{of_best}
use Rattle.counts.specs.Ranking.{score_of}
use Rattle.counts.proofs.Classes.{first_le, first_same, first_alike, is_first_yes, is_first_own}
use Rattle.sets.specs.Views.{no_variation}
use Rattle.counting.specs.Counted.{marks}
use Rattle.counting.specs.PointSets.{worth_of, sets_sameness}

-- the least number that passes does pass
passes : (n : ℕ) (p : ℕ → Bool) → first_below n p < n → p (first_below n p) ≡ true
passes zero p l = absurd (let z : ⊥ = omega arith in z)
passes (suc n) p l = by (first_below n p) (passes n p) (ltb (first_below n p) n) refl (p n) refl l
  where
    by : (f : ℕ) → (f < n → p f ≡ true) → (t : Bool) → ltb f n ≡ t → (u : Bool) → p n ≡ u → cond t f (cond u n (suc n)) < suc n → p (cond t f (cond u n (suc n))) ≡ true
    by f ih true e u q l = ih (ltb-true f n e)
    by f ih false e true q l = q
    by f ih false e false q l = absurd (let z : ⊥ = omega arith in z)

module _ {same : ℕ → ℕ → Bool} {n : ℕ} (s : Sameness same n) (score : ℕ → ℕ) (i : ℕ) (l : i < n) where
  abbrev best : ℕ
  best = ranked n same score 0

  some_class : 0 < count_below n (is_first n same)
  some_class =
      let own : first n same 0 ≡ 0 = omega (arith, first_le s 0 (omega arith)) in
      let z = count_none n (λ k. false) (λ k m. refl) in
      omega (arith, count_less n (λ k. false) (is_first n same) (λ k m e. absurd (both_ways false refl e)) 0 (omega arith) refl (is_first_yes n same 0 own))

  best_inside : best < n
  best_inside = ranked_below n same score 0 some_class

  best_first : first n same best ≡ best
  best_first =
      is_first_own n same best
      (and_parts (is_first n same best) (eqb (rank n same score best) 0) (passes n (λ c. is_first n same c && eqb (rank n same score c) 0) best_inside)).0

  pub best_is : eqb (first n same i) best ≡ same best i
  best_is = by (same best i) refl
    where
      by : (b : Bool) → same best i ≡ b → eqb (first n same i) best ≡ b
      by true e = eq-eqb (first n same i) best (first_same s best i best_inside l e ∙ best_first)
      by false e = ne_eqb (first n same i) best (λ q. both_ways _ e (subst (λ (x : ℕ). same x i ≡ true) q (first_alike s i l)))

shared_is : (ps : List Points) (i : ℕ) → i < length ps → of_best (length ps) (same_set ps) (set_score ps) i ≡ is_shared (shared_points ps) (get_or ps i every)
shared_is ps i l = by (ltb 1 (count (length ps) (same_set ps) (ranked (length ps) (same_set ps) (set_score ps) 0)))
  where
    by : (t : Bool) → (t && eqb (first (length ps) (same_set ps) i) (ranked (length ps) (same_set ps) (set_score ps) 0)) ≡ is_shared (cond t (some (get_or ps (ranked (length ps) (same_set ps) (set_score ps) 0) every)) none) (get_or ps i every)
    by true = best_is (sets_sameness ps (length ps)) (set_score ps) i l
    by false = refl

-- the marks of a glyph's variations
pub marks_are : (vs : List Variation) (n i : ℕ) → n ≡ length vs → i < n →
    of_best n (same_set (point_sets vs)) (score_of n (same_set (point_sets vs)) (worth_of (point_sets vs))) i ≡ get_or (marks vs) i false
marks_are vs n i e l =
    let ps = point_sets vs in
    let m : length ps ≡ length vs = length-map vs (λ v. stored_points v.deltas) in
    let h : i < length vs = omega arith in
    subst (λ (k : ℕ). of_best k (same_set ps) (score_of k (same_set ps) (worth_of ps)) i ≡ is_shared (shared_points ps) (get_or ps i every)) (m ∙ sym e) (shared_is ps i (omega arith))
    ∙ ap (is_shared (shared_points ps)) (get_or-map (λ v. stored_points v.deltas) vs i no_variation every h)
    ∙ sym (get_or-map (λ v. is_shared (shared_points ps) (stored_points v.deltas)) vs i no_variation false h)
