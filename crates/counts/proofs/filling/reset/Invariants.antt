use Rattle.std.proofs.Common.{◌≡◌, ℕ, ◌<◌, None}
use Rattle.counts.specs.Cells.{head_at}
use Rattle.counts.specs.Tables.{LeavesRanks}
use Rattle.counts.proofs.filling.reset.Given as goal

abbrev pub invariant-loop-cell : goal.invariant-loop-cell
invariant-loop-cell l =
    ((k : ℕ) → k < l.cell-index → head_at l.cell-items k ≡ None)
    × LeavesRanks l.n l.initial.cell-items l.cell-items
