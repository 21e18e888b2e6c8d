use Rattle.slots.proofs.HeadSteps.{so_far_none, so_far_more, so_far_fault, so_far_all}
use Rattle.slots.proofs.bytes.SlotBytes.past_headers.Goals as goal

pub loop-i-init : goal.loop-i-init
loop-i-init c = so_far_none c.args.self.now.table.now c.args.at c.args.self.now.axes c.args.count

pub loop-i-preserved : goal.loop-i-preserved
loop-i-preserved c = so_far_more c.args.self.now.table.now c.args.at c.args.self.now.axes c.args.count c.loop-i.i c.loop-i.place c.in-Some.h c.loop-i-test.true c.loop-i.invariant c.in-Some.ensures

pub returns-in_default : goal.returns-in_default
returns-in_default c = so_far_fault c.args.self.now.table.now c.args.at c.args.self.now.axes c.args.count c.loop-i.i c.loop-i.place c.loop-i-test.true c.loop-i.invariant c.in_default.ensures

pub returns : goal.returns
returns c = so_far_all c.args.self.now.table.now c.args.at c.args.self.now.axes c.args.count c.loop-i.i c.loop-i.place c.loop-i-test.false c.loop-i.invariant
