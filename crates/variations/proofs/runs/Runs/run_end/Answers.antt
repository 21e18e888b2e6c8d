use Rattle.std.proofs.Common.{◌≡◌, ◌-◌, ◌<◌, true, false, drop, sym, ap, ◌∙◌, arith, rules}
use Rattle.variations.specs.Forms.{reach}
use Rattle.variations.proofs.Reaching.{seen_test, reach_go, reach_most, reach_stop}
use Rattle.variations.proofs.runs.Runs.run_end.Goals as goal

pub returns-then-stops_before : goal.returns-then-stops_before
returns-then-stops_before g c =
    let k = g.P.Kind.RunKind in
    let p = g.P.Packed in
    let s = c.args.self.now.values in
    let i = c.loop-n.invariant in
    let a = c.look_ahead-ahead-in-loop-n in
    let t = seen_test k.form (p.values s) (p.places s) k.LOOKS_AHEAD g.met.P.Kind.RunKind.blind c.args.kind c.of.result c.kind_ahead.result c.loop-n.end c.step_at.result a.result c.in-Some.step true
    c.in-Some.is c.step_at.ensures a.ensures c.of.ensures c.kind_ahead.ensures c.if-stops_before.ensures in
    let below : c.loop-n.n < k.MOST = search rules in
    let z = reach_stop k.form k.MOST c.args.kind c.loop-n.n (p.values s c.loop-n.end) _ _ below t.begins t.test in
    record { count = omega (arith, i.count, z); end = ap (λ n. drop n (p.values s c.loop-n.end)) (sym z) ∙ i.end; paced = i.paced; within = i.inside }

pub loop-n-preserved : goal.loop-n-preserved
loop-n-preserved g c =
    let k = g.P.Kind.RunKind in
    let p = g.P.Packed in
    let s = c.args.self.now.values in
    let i = c.loop-n.invariant in
    let a = c.look_ahead-ahead-in-loop-n in
    let t = seen_test k.form (p.values s) (p.places s) k.LOOKS_AHEAD g.met.P.Kind.RunKind.blind c.args.kind c.of.result c.kind_ahead.result c.loop-n.end c.step_at.result a.result c.in-Some.step false
    c.in-Some.is c.step_at.ensures a.ensures c.of.ensures c.kind_ahead.ensures c.if-stops_before.ensures in
    let below : c.loop-n.n < k.MOST = search rules in
    let r = reach_go k.form k.MOST c.args.kind c.loop-n.n _ (p.values s c.loop-n.end) _ _ _ below t.begins t.test i.count i.end in
    record { paced = omega (arith, i.paced, t.further); inside = t.inside; ahead = a.ensures; count = r.0; end = r.1 }

pub returns-clause-end : goal.returns-clause-end
returns-clause-end g c =
    let k = g.P.Kind.RunKind in
    let p = g.P.Packed in
    let s = c.args.self.now.values in
    let i = c.loop-n.invariant in
    let most : k.MOST - c.loop-n.n ≡ 0 = search rules in
    let z : reach k.form c.args.kind (k.MOST - c.loop-n.n) (p.values s c.loop-n.end) ≡ 0 = omega (arith, reach_most k.form c.args.kind (k.MOST - c.loop-n.n) (p.values s c.loop-n.end)) in
    ap (λ n. drop n (p.values s c.loop-n.end)) (sym z) ∙ i.end
