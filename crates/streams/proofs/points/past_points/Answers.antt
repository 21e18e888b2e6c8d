use Rattle.std.proofs.Common.{arith}
use Rattle.streams.proofs.PointCounts.{set_every, set_only}
use Rattle.streams.proofs.points.past_points.Goals as goal

pub returns-then-head-eq0 : goal.returns-then-head-eq0
returns-then-head-eq0 c =
    set_every c.args.table.now c.args.at c.args.p c.in_ok-head.head.count c.in_ok-head.head.past c.in_ok-head.ensures.read c.if-head-eq0.true

pub returns : goal.returns
returns c =
    set_only c.args.table.now c.args.at c.args.p c.in_ok-head.head.count c.in_ok-head.head.past c.in_ok-head.ensures.read c.in_ok-past.past (omega arith) c.in_ok-past.ensures
