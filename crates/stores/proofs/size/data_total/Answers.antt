use Rattle.std.proofs.Common.{arith}
use Rattle.stores.specs.Parts.{data_in}
use Rattle.stores.proofs.Joining.{sum_more, sum_all}
use Rattle.stores.proofs.size.data_total.Goals as goal

pub loop-j-preserved : goal.loop-j-preserved
loop-j-preserved g c =
    let vs = g.T.TupleVariations.variations c.args.store.now in
    (sum_more (data_in vs) vs c.loop-j.j c.loop-j.size c.data_size-size.result _ (omega arith) c.data_size-size.ensures.size c.loop-j.invariant.0, omega arith)

pub returns : goal.returns
returns g c =
    let vs = g.T.TupleVariations.variations c.args.store.now in
    record { size = sum_all (data_in vs) vs c.loop-j.j c.loop-j.size _ (omega arith) c.loop-j.invariant.0; most = omega arith }
