use Rattle.std.proofs.lemmas.Result.{err_from_is_err_and}
use Rattle.slots.specs.Faults.{slot_declined}
use Rattle.slots.proofs.WalkSteps.{entries_none, entries_more, entries_all, entries_fault}
use Rattle.slots.proofs.bytes.SlotBytes.past_entries.Goals as goal

pub loop-i-init : goal.loop-i-init
loop-i-init c = entries_none c.args.self.now.table.now c.args.header c.args.body c.args.self.now.axes c.args.self.now.p c.args.count c.args.shared

pub loop-i-preserved : goal.loop-i-preserved
loop-i-preserved c =
    entries_more c.args.self.now.table.now c.args.header c.args.body c.args.self.now.axes c.args.self.now.p c.args.count c.args.shared c.loop-i.i c.loop-i.h c.loop-i.place c.in_ok-s.s
    c.loop-i-test.true c.loop-i.invariant c.in_ok-s.ensures

pub returns-in_err-s : goal.returns-in_err-s
returns-in_err-s c =
    let m = entries_fault c.args.self.now.table.now c.args.header c.args.body c.args.self.now.axes c.args.self.now.p c.args.count c.args.shared c.loop-i.i c.loop-i.h c.loop-i.place
    (λ g. slot_declined g c.in_err-s.field-0.0) c.loop-i-test.true c.loop-i.invariant c.in_err-s.ensures in
    let p = err_from_is_err_and c.from_residual.result c.from_residual.ensures.1 in
    rw (p.1, p.2) m

pub returns : goal.returns
returns c =
    entries_all c.args.self.now.table.now c.args.header c.args.body c.args.self.now.axes c.args.self.now.p c.args.count c.args.shared c.loop-i.i c.loop-i.h c.loop-i.place c.loop-i-test.false c.loop-i.invariant
