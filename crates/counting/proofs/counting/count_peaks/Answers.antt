use Rattle.std.proofs.Common.{◌≡◌, ℕ, ◌*◌, List, length, ℤ, Result, OnOk, sym, ap, ◌∙◌, subst, Bor, rules}
use Rattle.format.specs.Glyphs.{peaks_seen, same_peak}
use Rattle.format.specs.Ranked.{count}
use Rattle.format.specs.Table.{variation_count}
use Rattle.counts.specs.declared.cells.CountCell.{CountCell}
use Rattle.counts.specs.Ranking.{Standing}
use Rattle.counts.specs.Rows.{rows}
use Rattle.counts.specs.Tables.{Filled}
use Rattle.counts.specs.declared.too_few.TooFewCells.{TooFewCells}
use Rattle.sets.specs.OfSet.{account_of, glyphs_of}
use Rattle.counting.specs.Counted.{RanksHeld, OrdersHeld}
use Rattle.counting.proofs.Ranks.{seen_long, enough, ranks_held, orders_held, shared_is}
use Rattle.counting.proofs.counting.count_peaks.Goals as goal

pub returns : goal.returns
returns c =
    let gs = glyphs_of c.args.set.now in
    let axes = (account_of c.args.set.now).axes in
    let ps = peaks_seen gs in
    let n = c.variation_count-n.result in
    let xs = c.axis_values.result.now in
    let p = c.over-peaks.result in
    let rs = rows p.axes p.values.now p.count in
    let filling = c.fill.new.self.cells.now in
    let end = c.rank.new.self.cells.now in
    let number : n ≡ length ps = c.variation_count-n.ensures.all ∙ sym (seen_long gs) in
    let values : length xs ≡ 3 * c.axis_count.result * n =
    c.axis_values.ensures.long ∙ ap (λ (x : ℕ). 3 * x * variation_count gs) (sym c.axis_count.ensures.is) ∙ ap (λ (x : ℕ). 3 * c.axis_count.result * x) (sym c.variation_count-n.ensures.is) in
    let k : p.count ≡ n = enough c.axis_count.result n (length xs) p.count values c.over-peaks.ensures.count in
    let e : rs ≡ ps =
    ap (λ (x : ℕ). rows x p.values.now p.count) (c.over-peaks.ensures.axes ∙ c.axis_count.ensures.is)
    ∙ ap (λ (x : Bor (List ℤ)). rows axes x.now p.count) c.over-peaks.ensures.values
    ∙ ap (λ (x : ℕ). rows axes xs x) (k ∙ c.variation_count-n.ensures.is)
    ∙ c.axis_values.ensures.rows in
    let filled : Filled (same_peak rs) p.count filling = subst (λ (r : Result (Unit {0}) TooFewCells). OnOk r (Filled (same_peak rs) p.count filling)) c.unwrap.ensures c.fill.ensures.filled in
    let standing : Standing (same_peak rs) (λ i. count p.count (same_peak rs) i) p.count end = c.rank.ensures.ranked filled in
    record {
      shared = shared_is rs ps n c.repeated-repeated.result c.min.result e number (c.repeated-repeated.ensures.value (same_peak rs) (subst (λ (x : ℕ). Filled (same_peak rs) x filling) k filled)) c.min.ensures;
      ranks = subst (λ (x : List CountCell). RanksHeld ps x) (search rules) (ranks_held rs ps p.count e (k ∙ number) end standing);
      orders = subst (λ (x : List CountCell). OrdersHeld ps x) (search rules) (orders_held rs ps p.count e (k ∙ number) end standing);
    }
