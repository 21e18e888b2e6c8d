use Rattle.std.proofs.Common.{◌≡◌}
use Rattle.counts.specs.Tables.{LeavesRanks}
use Rattle.counts.specs.Chains.{State}
use Rattle.counts.proofs.table.CountTable.fill.Given as goal

abbrev pub invariant-loop-i : goal.invariant-loop-i
invariant-loop-i g l =
    State (g.I.Items.alike l.items) (g.I.Items.code l.items) (g.I.Items.size l.items) l.i l.self.cells.now
    × LeavesRanks (g.I.Items.size l.items) l.initial.self.cells.now l.self.cells.now
    × (l.self.cells.ghost_name ≡ l.initial.self.cells.ghost_name)
