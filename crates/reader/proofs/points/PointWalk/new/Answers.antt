use Rattle.std.proofs.Common.{Some, Option as Maybe, subst, arith}
use Rattle.reader.specs.declared.points.PointList.{PointList}
use Rattle.reader.specs.PointWalks.{ListRead}
use Rattle.reader.proofs.PointWalkSteps.{any_decline, unlisted, faulty, uncounted, counted}
use Rattle.reader.proofs.points.PointWalk.new.Goals as goal

pub returns-in_default : goal.returns-in_default
returns-in_default c set l = unlisted c.args.p set (subst (λ (m : Maybe PointList). ListRead m c.args.p set) c.in_default.is l)

pub returns-in-Err : goal.returns-in-Err
returns-in-Err c set l =
    let k = c.in-Some.list in
    let r : ListRead (Some k) c.args.p set = subst (λ (m : Maybe PointList). ListRead m c.args.p set) c.in-Some.is l in
    faulty c.args.p set r.left r.past k.bytes.now k.at (r.is_read any_decline) _ (c.in-Err.ensures.read any_decline c.args.p)

pub returns-then-head-eq0 : goal.returns-then-head-eq0
returns-then-head-eq0 c set l =
    let k = c.in-Some.list in
    let r : ListRead (Some k) c.args.p set = subst (λ (m : Maybe PointList). ListRead m c.args.p set) c.in-Some.is l in
    uncounted c.args.p set r.left r.past k.bytes.now k.at (r.is_read any_decline) c.in-Ok.head.count c.in-Ok.head.past (c.in-Ok.ensures.read any_decline c.args.p) c.if-head-eq0.true

pub returns-else-head-eq0 : goal.returns-else-head-eq0
returns-else-head-eq0 c set l =
    let k = c.in-Some.list in
    let r : ListRead (Some k) c.args.p set = subst (λ (m : Maybe PointList). ListRead m c.args.p set) c.in-Some.is l in
    counted c.args.p set r.left r.past k.bytes.now k.at (r.is_read any_decline) c.in-Ok.head.count c.in-Ok.head.past (c.in-Ok.ensures.read any_decline c.args.p) c.new.result (omega arith) (c.new.ensures.read any_decline)
