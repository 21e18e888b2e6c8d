use Rattle.std.proofs.Common.{length}
use Rattle.sets.specs.Cells.{number_at}
use Rattle.sets.proofs.Chains.{Walk, left}
use Rattle.sets.proofs.set.Set.find.Given as goal

abbrev pub invariant-loop-at : goal.invariant-loop-at
invariant-loop-at l = Walk (number_at l.self.glyphs.now) l.self.begun (length l.self.glyphs.now) l.number l.at

abbrev pub decreases-loop-at : goal.decreases-loop-at
decreases-loop-at l = left l.at
