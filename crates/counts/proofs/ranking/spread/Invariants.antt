use Rattle.counts.proofs.Marks.{Spread}
use Rattle.counts.proofs.ranking.spread.Given as goal

abbrev pub invariant-loop-i : goal.invariant-loop-i
invariant-loop-i l = Spread l.i l.initial.cells l.cells
