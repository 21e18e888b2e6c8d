use Rattle.counts.proofs.Marks.{Marked}
use Rattle.counts.proofs.ranking.mark.Given as goal

abbrev pub invariant-loop-r : goal.invariant-loop-r
invariant-loop-r l = Marked l.r l.initial.cells l.cells
