use Rattle.slots.proofs.HeadSteps.{PeaksLeft}
use Rattle.slots.proofs.bytes.SlotBytes.check_peaks.Given as goal

abbrev pub invariant-loop-i : goal.invariant-loop-i
invariant-loop-i l = PeaksLeft l.self.table.now l.at l.self.axes l.count l.self.peaks l.i l.place
