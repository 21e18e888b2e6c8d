use Rattle.counts.proofs.Led.{Marking}
use Rattle.counts.proofs.marking.mark_class.Given as goal

abbrev pub invariant-loop-cell : goal.invariant-loop-cell
invariant-loop-cell l = Marking l.n l.cell-index l.class l.initial.cell-items l.cell-items
