use Rattle.std.proofs.Common.{◌-◌, ◌≤◌, length, refl, ap, ◌∙◌, arith, length-append}
use Rattle.write.proofs.Batches.{kept_fits}
use Rattle.write.proofs.Feeding.{fed_whole}
use Rattle.tables.proofs.feed.put.Goals as goal

pub unwrap-requires : goal.unwrap-requires
unwrap-requires g c =
    let room : length c.args.bytes.now ≤ g.row.N - length c.args.batch.now = omega arith in
    rw (kept_fits c.take.result room (fed_whole c.take.result c.take.ensures)).0 refl

pub returns : goal.returns
returns g c =
    let room : length c.args.bytes.now ≤ g.row.N - length c.args.batch.now = omega arith in
    let took = (kept_fits c.take.result room (fed_whole c.take.result c.take.ensures)).1 in
    record { bytes = took; size = ap length took ∙ length-append c.args.batch.now c.args.bytes.now }
