use Rattle.std.proofs.Common.{arith}
use Rattle.stores.specs.Parts.{header_in}
use Rattle.stores.proofs.Joining.{sum_more, sum_all}
use Rattle.stores.proofs.size.headers_size.Goals as goal

pub loop-j-preserved : goal.loop-j-preserved
loop-j-preserved g c =
    let t = g.T.TupleVariations in
    let ps = t.peaks c.args.store.now in
    let vs = t.variations c.args.store.now in
    (sum_more (header_in ps vs) vs c.loop-j.j c.loop-j.size c.header_size-size.result _ (omega arith) c.header_size-size.ensures.size c.loop-j.invariant.0, omega arith)

pub returns : goal.returns
returns g c =
    let t = g.T.TupleVariations in
    let ps = t.peaks c.args.store.now in
    let vs = t.variations c.args.store.now in
    record { size = sum_all (header_in ps vs) vs c.loop-j.j c.loop-j.size _ (omega arith) c.loop-j.invariant.0; most = omega arith }
