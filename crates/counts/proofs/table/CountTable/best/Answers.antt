use Rattle.std.proofs.Common.{◌≡◌, ℕ, List, Some, length, take, sym, ap, ◌∙◌, subst}
use Rattle.counts.specs.declared.cells.CountCell.{CountCell}
use Rattle.counts.specs.Tables.{Filled}
use Rattle.counts.proofs.Fronts.{filled_front}
use Rattle.counts.proofs.Standings.{leading_some, leading_none}
use Rattle.counts.proofs.table.CountTable.best.Goals as goal

pub returns-in_err-best-clause-value : goal.returns-in_err-best-clause-value
returns-in_err-best-clause-value g c = rw (← c.of.ensures.items) (λ t l.
    let items = c.of.result.items.now in
    let s = g.R.Items.sameness items in
    let cells = c.of.result.cells.now in
    let n = g.R.Items.size items in
    let e : c.count-n.result ≡ n = c.count-n.ensures ∙ ap (λ b. g.R.Items.size b.now) (sym c.of.ensures.items) in
    let front : cells ≡ take n c.args.self.now.cells.now = ap (λ b. b.now) c.of.ensures.cells ∙ ap (λ (m : ℕ). take m c.args.self.now.cells.now) e in
    let filled : Filled (g.R.Items.alike items) n cells = subst (λ (xs : List CountCell). Filled (g.R.Items.alike items) n xs) (sym front) (filled_front t) in
    absurd (leading_none s filled c.of.result.each (g.R.Ranked.worth items) (length cells) c.best.result c.of.result.each (c.in_err-best.was) c.best.ensures l))

pub returns-clause-value : goal.returns-clause-value
returns-clause-value g c = rw (← c.of.ensures.items) (λ t l.
    let items = c.of.result.items.now in
    let s = g.R.Items.sameness items in
    let cells = c.of.result.cells.now in
    let n = g.R.Items.size items in
    let e : c.count-n.result ≡ n = c.count-n.ensures ∙ ap (λ b. g.R.Items.size b.now) (sym c.of.ensures.items) in
    let is : cells ≡ take c.count-n.result c.args.self.now.cells.now = ap (λ b. b.now) c.of.ensures.cells in
    let front : cells ≡ take n c.args.self.now.cells.now = is ∙ ap (λ (m : ℕ). take m c.args.self.now.cells.now) e in
    let filled : Filled (g.R.Items.alike items) n cells = subst (λ (xs : List CountCell). Filled (g.R.Items.alike items) n xs) (sym front) (filled_front t) in
    let found = leading_some s filled c.of.result.each (g.R.Ranked.worth items) (length cells) c.best.result c.in_ok-best.best c.of.result.each (c.in_ok-best.was) c.best.ensures in
    rw (← is) (ap Some found))
