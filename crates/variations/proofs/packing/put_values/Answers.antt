use Rattle.std.proofs.Common.{◌≡◌, ◌+◌, ◌-◌, map, take, length, ap, arith}
use Rattle.std.proofs.lemmas.Result.{err_from_is_err_and}
use Rattle.format.specs.Bytes.{joined}
use Rattle.write.proofs.Feeding.{part_none, part_more, part_stop, part_done}
use Rattle.variations.proofs.Filling.{turn}
use Rattle.variations.proofs.packing.put_values.Goals as goal

pub loop-init : goal.loop-init
loop-init g c =
    let e : c.args.run.count - 0 ≡ c.args.run.count = omega arith in
    record { enough = rw e c.requires.enough; fit = rw e c.requires.fit; fed = rw e part_none }

pub returns-in_err-put : goal.returns-in_err-put
returns-in_err-put g c =
    let q = err_from_is_err_and c.from_residual.result c.from_residual.ensures.1 in
    let i = c.loop.invariant in
    let f = g.P.Kind.RunKind.form in
    let t = turn f c.args.run.kind _ (g.P.Packed.values c.args.values.now c.in-Some.step.after) (c.args.run.count - c.loop.counter) (c.args.run.count - (c.loop.counter + 1)) _
    c.in-Some.ensures.2 (omega (arith, c.loop-test.true)) i.enough i.fit in
    rw (q.1, q.2) (part_stop _ _ t.bytes i.fed _ (c.in_err-put.ensures t.holds))

pub loop-preserved : goal.loop-preserved
loop-preserved g c =
    let i = c.loop.invariant in
    let f = g.P.Kind.RunKind.form in
    let t = turn f c.args.run.kind _ (g.P.Packed.values c.args.values.now c.in-Some.step.after) (c.args.run.count - c.loop.counter) (c.args.run.count - (c.loop.counter + 1)) _
    c.in-Some.ensures.2 (omega (arith, c.loop-test.true)) i.enough i.fit in
    record { enough = t.enough; fit = t.fit; fed = part_more _ _ t.bytes i.fed (c.in_ok-put.ensures t.holds).outcome }

pub returns-after-loop : goal.returns-after-loop
returns-after-loop g c =
    let left : c.args.run.count - c.loop.counter ≡ 0 = omega (arith, c.loop-test.false) in
    let f = g.P.Kind.RunKind.form in
    part_done (ap (λ n. joined (map (f.value_bytes c.args.run.kind) (take n (g.P.Packed.values c.args.values.now c.loop.place)))) left) c.loop.invariant.fed

pub returns-in_default : goal.returns-in_default
returns-in_default g c =
    let n = ap length c.in_default.ensures in
    absurd (omega (arith, c.loop.invariant.enough, c.loop-test.true))
