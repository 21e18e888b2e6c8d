-- Ranks are written, cell by cell. Assumes nothing.
use Rattle.std.proofs.Common.{◌≡◌, ℕ, ◌+◌, ◌<◌, ◌≤◌, ◌≢◌, List, length, get_or, set, sym, refl, ap, ◌∙◌, subst, inl, inr, arith}
use Rattle.std.proofs.lemmas.Bool.{cases_eq}
use Rattle.counts.specs.declared.cells.CountCell.{CountCell}
use Rattle.counts.specs.Cells.{blank, first_at, rank_at, order_at}
use Rattle.counts.specs.Ranking.{KeepsCounts, Joins}
use Rattle.counts.specs.Heaps.{Apart}
use Rattle.counts.proofs.Steps.{field_same, field_other, field_kept}
use Rattle.counts.proofs.Swaps.{counts_more, counts_set}

-- ---- the ranks of first items
pub record Marked (r : ℕ) (old cells : List CountCell) : Type 0 where
  pub ranks : (q : ℕ) → q < r → rank_at cells (order_at old q) ≡ q
  pub orders : (q : ℕ) → order_at cells q ≡ order_at old q
  pub rest : KeepsCounts old cells

pub marked_more : (k r : ℕ) (old cells : List CountCell) → r < k → ((q : ℕ) → q < k → order_at old q < length old) → Apart k (order_at old) → Marked r old cells →
    Marked (r + 1) old (set cells (order_at cells r) (record (get_or cells (order_at cells r) blank) { rank = r }))
marked_more k r old cells l inside apart m =
    let c = order_at cells r in
    let e : c ≡ order_at old r = m.orders r in
    let low : c < length old = subst (λ (x : ℕ). x < length old) (sym e) (inside r l) in
    let within : c < length cells = omega (arith, m.rest.long) in
    let x = record (get_or cells c blank) { rank = r } in
    record {
      ranks = λ q lq. elim (cases_eq q r) [
        | inl p ↦ ap (rank_at (set cells c x)) (ap (order_at old) p ∙ sym e) ∙ field_same (λ y. y.rank) cells c x within ∙ sym p
        | inr np ↦
            let lk : q < k = omega arith in
            let ne : order_at old q ≢ c = λ p. np (apart q r lk l (p ∙ e)) in
            field_other (λ y. y.rank) cells c x (order_at old q) ne ∙ m.ranks q (omega arith)
      ];
      orders = λ q. field_kept (λ y. y.order) cells c x within refl q ∙ m.orders q;
      rest = counts_more old cells (set cells c x) m.rest (counts_set c cells x within refl refl);
    }

-- ---- and of the other items
pub record Spread (i : ℕ) (old cells : List CountCell) : Type 0 where
  pub ranks : (j : ℕ) → j < i → Joins old j → rank_at cells j ≡ rank_at old (first_at old j)
  pub later : (j : ℕ) → i ≤ j → rank_at cells j ≡ rank_at old j
  pub orders : (q : ℕ) → order_at cells q ≡ order_at old q
  pub rest : KeepsCounts old cells
