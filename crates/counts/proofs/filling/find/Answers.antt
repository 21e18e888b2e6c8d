use Rattle.std.proofs.Common.{◌%◌, ◌<◌, sym, subst, mod-lt, arith}
use Rattle.counts.specs.Chains.{Walk, Reached}
use Rattle.counts.proofs.Walks.{walk_along, walk_found, walk_more}
use Rattle.counts.proofs.filling.find.Goals as goal

pub loop-j-init : goal.loop-j-init
loop-j-init g c =
    let s = g.I.Items.sameness c.args.items.now in
    let a = g.I.Items.agrees c.args.items.now in
    let n = g.I.Items.size c.args.items.now in
    let i = c.args.i in
    let code = g.I.Items.code c.args.items.now in
    let low : code i % n < n = mod-lt _ (omega (arith, c.requires.inside)) in
    walk_along s a i i _ c.requires.inside (omega arith) (λ l. l)
    (rw c.requires.bucket (c.requires.along.heads (code i % n) low))

pub returns-then-same : goal.returns-then-same
returns-then-same g c =
    let s = g.I.Items.sameness c.args.items.now in
    let a = g.I.Items.agrees c.args.items.now in
    let alike = g.I.Items.alike c.args.items.now in
    let code = g.I.Items.code c.args.items.now in
    let n = g.I.Items.size c.args.items.now in
    let r : Reached alike code n c.args.i c.in-Some.j = subst (Walk alike code n c.args.i) (sym c.in-Some.ensures) c.loop-j.invariant in
    walk_found s a c.args.i c.in-Some.j c.requires.inside r (sym c.if-same.ensures)

pub loop-j-preserved : goal.loop-j-preserved
loop-j-preserved g c =
    let s = g.I.Items.sameness c.args.items.now in
    let a = g.I.Items.agrees c.args.items.now in
    let alike = g.I.Items.alike c.args.items.now in
    let code = g.I.Items.code c.args.items.now in
    let n = g.I.Items.size c.args.items.now in
    let r : Reached alike code n c.args.i c.in-Some.j = subst (Walk alike code n c.args.i) (sym c.in-Some.ensures) c.loop-j.invariant in
    walk_more s a c.args.i c.in-Some.j _ c.requires.inside r (sym c.if-same.ensures) (c.requires.along.nexts c.in-Some.j r.inside r.chained.own)
