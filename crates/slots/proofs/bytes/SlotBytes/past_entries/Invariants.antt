use Rattle.slots.proofs.WalkSteps.{EntriesSoFar}
use Rattle.slots.proofs.bytes.SlotBytes.past_entries.Given as goal

abbrev pub invariant-loop-i : goal.invariant-loop-i
invariant-loop-i l = EntriesSoFar l.self.table.now l.header l.body l.self.axes l.self.p l.count l.shared l.i l.h l.place
