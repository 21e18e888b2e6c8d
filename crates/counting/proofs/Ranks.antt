-- The peaks of a set, counted and ranked. Assumes nothing.
use Rattle.std.proofs.Common.{◌≡◌, ℕ, ◌*◌, ◌≤◌, min, cond, leb, List, length, ℤ, ap, ◌∙◌, subst, arith}
use Rattle.std.proofs.lemmas.List.{length-map}
use Rattle.std.proofs.lemmas.Bool.{le-leb, cond-true}
use Rattle.format.specs.Account.{Glyph}
use Rattle.format.specs.Glyphs.{peak, peaks_seen, same_peak, peak_score, shared_count}
use Rattle.format.specs.Ranked.{count, count_below}
use Rattle.counts.specs.declared.cells.CountCell.{CountCell}
use Rattle.counts.specs.Marking.{repeats}
use Rattle.counts.specs.Ranking.{Standing}
use Rattle.sets.specs.Views.{all_variations}
use Rattle.sets.proofs.Peaked.{seen_is}
use Rattle.counting.specs.Counted.{RanksHeld, OrdersHeld}

-- there are values enough
pub enough : (a n v m : ℕ) → v ≡ 3 * a * n → m ≡ cond (leb (3 * a * n) v) n 0 → m ≡ n
enough a n v m e is = let h : 3 * a * n ≤ v = omega arith in is ∙ cond-true (leb (3 * a * n) v) n 0 (le-leb (3 * a * n) v h)

pub seen_long : (gs : List Glyph) → length (peaks_seen gs) ≡ length (all_variations gs)
seen_long gs = ap length (seen_is gs) ∙ length-map (all_variations gs) peak

module _ (rs ps : List (List ℤ)) (m : ℕ) (e : rs ≡ ps) (k : m ≡ length ps) (cells : List CountCell)
    (t : Standing (same_peak rs) (λ c. count m (same_peak rs) c) m cells) where
  stands : Standing (same_peak ps) (peak_score ps) (length ps) cells
  stands =
      subst (λ (n : ℕ). Standing (same_peak ps) (λ c. count n (same_peak ps) c) n cells) k
      (subst (λ (qs : List (List ℤ)). Standing (same_peak qs) (λ c. count m (same_peak qs) c) m cells) e t)

  pub ranks_held : RanksHeld ps cells
  ranks_held = stands.ranks

  pub orders_held : OrdersHeld ps cells
  orders_held = stands.orders

pub shared_is : (rs ps : List (List ℤ)) (m r q : ℕ) → rs ≡ ps → m ≡ length ps → r ≡ count_below m (repeats m (same_peak rs)) → q ≡ min r 4095 → q ≡ shared_count ps
shared_is rs ps m r q e k is least =
    let all : r ≡ count_below (length ps) (repeats (length ps) (same_peak ps)) =
    is ∙ ap (λ (qs : List (List ℤ)). count_below m (repeats m (same_peak qs))) e ∙ ap (λ (n : ℕ). count_below n (repeats n (same_peak ps))) k in
    let turn : q ≡ min 4095 r = omega arith in
    turn ∙ ap (min 4095) all
