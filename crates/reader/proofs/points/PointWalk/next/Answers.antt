use Rattle.std.proofs.Common.{◌+◌, ◌-◌, refl, subst}
use Rattle.format.specs.Glyphs.{listed}
use Rattle.reader.specs.declared.points.PointWalk.{PointWalk}
use Rattle.reader.specs.PointWalks.{PointsLeft}
use Rattle.reader.proofs.PointWalkSteps.{every_next, came}
use Rattle.reader.proofs.points.PointWalk.next.Goals as goal

pub returns-else-q-p : goal.returns-else-q-p
returns-else-q-p c qs h =
    let q = c.in-Every.q in
    let p = c.in-Every.p in
    let t = subst (λ (w : PointWalk). PointsLeft w qs) c.in-Every.is h in
    (listed (q + 1) (p - (q + 1)) (λ i. i), every_next q p qs c.if-q-p.false t, refl)

pub returns-in-Listed : goal.returns-in-Listed
returns-in-Listed c qs h =
    let t = subst (λ (w : PointWalk). PointsLeft w qs) c.in-Listed.is h in
    rw c.unwrap_or-point.ensures (came c.in-Listed.old c.next.new.self qs t.0 c.next.result t.1 c.next.ensures)
