use Rattle.std.proofs.Common.{sym, ap, ◌∙◌, arith}
use Rattle.streams.specs.Points.{after_count}
use Rattle.streams.proofs.PointCounts.{long_count_is, count_read}
use Rattle.streams.proofs.points.read_count.Goals as goal

pub returns-clause-read : goal.returns-clause-read
returns-clause-read c d p =
    let bs = c.args.table.now in
    let a = c.in-Some.ensures.lookup.3 in
    let b = c.in-Some-get.ensures.lookup.3 in
    let e = long_count_is bs c.args.at c.from_be_bytes-count.result b.0 (omega (arith, a.1 0)) (omega (arith, a.1 0, b.1 0)) (omega arith) in
    count_read d p bs c.args.at ∙ ap (after_count d p bs) (sym e)
