use Rattle.slots.proofs.HeadSteps.{HeadsSoFar}
use Rattle.slots.proofs.bytes.SlotBytes.past_headers.Given as goal

abbrev pub invariant-loop-i : goal.invariant-loop-i
invariant-loop-i l = HeadsSoFar l.self.table.now l.at l.self.axes l.count l.i l.place
