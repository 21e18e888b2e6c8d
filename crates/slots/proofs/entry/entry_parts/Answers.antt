use Rattle.slots.proofs.EntrySteps.{left_over, parted}
use Rattle.slots.proofs.entry.entry_parts.Goals as goal

pub returns-then-end-table : goal.returns-then-end-table
returns-then-end-table c s n d k h e =
    let q = c.in_ok-set.ensures s n in
    let x = c.in_ok-y.ensures in
    let y = c.in_ok-end.ensures in
    left_over k d c.args.p s h c.args.table.now c.args.at c.args.private e q.set c.in_ok-set.set.past c.in_ok-set.set.size (q.is_read d) q.number
    x.0 y.0 c.in_ok-y.y c.in_ok-end.end (x.1 d) (y.1 d) c.if-end-table.true

pub returns : goal.returns
returns c s n =
    parted c.args.table.now c.args.at c.args.p s c.args.private c.in_ok-set.set c.in_ok-y.y c.in_ok-end.end
    (c.in_ok-set.ensures s n) c.in_ok-y.ensures c.in_ok-end.ensures c.if-end-table.false
