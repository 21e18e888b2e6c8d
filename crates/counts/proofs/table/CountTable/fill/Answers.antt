use Rattle.std.proofs.Common.{ℕ, subst, arith}
use Rattle.counts.specs.Tables.{LeavesRanks}
use Rattle.counts.proofs.Steps.{leaves_more}
use Rattle.counts.proofs.Adds.{state_all}
use Rattle.counts.proofs.table.CountTable.fill.Goals as goal

pub returns-clause-filled : goal.returns-clause-filled
returns-clause-filled g c = state_all (g.I.Items.sameness c.args.items.now) _ _ (omega arith) c.loop-i.invariant.0

pub returns-clause-rest : goal.returns-clause-rest
returns-clause-rest g c =
    let start = c.args.self.now.cells.now in
    let all : LeavesRanks (g.I.Items.size c.args.items.now) start c.reset.new.cells = subst (λ (m : ℕ). LeavesRanks m start c.reset.new.cells) c.count-n.ensures c.reset.ensures.rest in
    leaves_more _ _ _ _ all c.loop-i.invariant.1
