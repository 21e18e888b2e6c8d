use Rattle.std.proofs.Common.{length, sym, ap, arith, rules, length-take-le}
use Rattle.std.proofs.lemmas.Slice.{overwrites}
use Rattle.write.proofs.Batches.{gathered}
use Rattle.write.proofs.batch.BatchSink.take.Goals as goal

pub returns : goal.returns
returns g c =
    let s = c.self.inside in
    gathered g.row.N c.args.self.now c.args.bytes.now _
    (search (rules, overwrites))
    (omega (arith, ap length (sym c.self.view_is), length-take-le s.used s.bytes (omega arith)))
