use Rattle.counts.proofs.Collecting.{Collected}
use Rattle.counts.proofs.ranking.collect.Given as goal

abbrev pub invariant-loop-c : goal.invariant-loop-c
invariant-loop-c l = Collected l.initial.cells l.c l.k l.cells
