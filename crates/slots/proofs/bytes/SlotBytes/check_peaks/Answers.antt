use Rattle.std.proofs.Common.{sym, ◌∙◌}
use Rattle.slots.proofs.HeadSteps.{peaks_none, peaks_more, peaks_here, peaks_never, peaks_all}
use Rattle.slots.proofs.bytes.SlotBytes.check_peaks.Goals as goal

pub loop-i-init : goal.loop-i-init
loop-i-init c = peaks_none c.args.self.now.table.now c.args.at c.args.self.now.axes c.args.count c.args.self.now.peaks

pub loop-i-preserved : goal.loop-i-preserved
loop-i-preserved c =
    peaks_more c.args.self.now.table.now c.args.at c.args.self.now.axes c.args.count c.args.self.now.peaks c.loop-i.i c.loop-i.place c.in-Some.h c.loop-i-test.true c.loop-i.invariant c.in-Some.ensures
    (sym c.lacks_peak.ensures ∙ c.if-lacks_peak.false)

pub returns-in_default : goal.returns-in_default
returns-in_default c = peaks_never c.args.self.now.table.now c.args.at c.args.self.now.axes c.args.count c.args.self.now.peaks c.loop-i.i c.loop-i.place c.loop-i-test.true c.loop-i.invariant c.in_default.ensures

pub returns-then-lacks_peak : goal.returns-then-lacks_peak
returns-then-lacks_peak c =
    peaks_here c.args.self.now.table.now c.args.at c.args.self.now.axes c.args.count c.args.self.now.peaks c.loop-i.i c.loop-i.place c.in-Some.h c.loop-i-test.true c.loop-i.invariant c.in-Some.ensures
    (sym c.lacks_peak.ensures ∙ c.if-lacks_peak.true)

pub returns : goal.returns
returns c = peaks_all c.args.self.now.table.now c.args.at c.args.self.now.axes c.args.count c.args.self.now.peaks c.loop-i.i c.loop-i.place c.loop-i-test.false c.loop-i.invariant
