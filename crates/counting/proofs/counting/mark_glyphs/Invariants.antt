use Rattle.sets.specs.OfSet.{glyphs_of}
use Rattle.counting.specs.Marked.{KeepsRanks, MarkedTo}
use Rattle.counting.proofs.counting.mark_glyphs.Given as goal

abbrev pub invariant-loop-at : goal.invariant-loop-at
invariant-loop-at l = MarkedTo (glyphs_of l.set) l.at l.cells × KeepsRanks l.initial.cells l.cells
