use Rattle.std.proofs.Common.{◌≡◌, ◌+◌, ◌*◌, ◌<◌, length, get_or, pos, arith, length-set, w16, of_z, rules}
use Rattle.format.specs.Bytes.{word}
use Rattle.tuples.proofs.Words.{words_more}
use Rattle.tuples.proofs.tuple.pack.Goals as goal

pub loop-i-preserved : goal.loop-i-preserved
loop-i-preserved c =
    let zs = c.args.values.now in
    let i = c.loop-i.i in
    let bs = c.loop-i.bytes in
    let is : c.to_be_bytes-w.result ≡ word (of_z w16 (get_or zs i (pos 0))) = search rules in
    let in-batch : 2 * i + 1 < length bs = omega arith in
    let in-values : i < length zs = omega arith in
    (simp length-set c.loop-i.invariant.0, words_more zs i (pos 0) bs c.to_be_bytes-w.result in-values in-batch is c.loop-i.invariant.1)

pub returns : goal.returns
returns c =
    let e : c.loop-i.i ≡ c.min-n.result = omega arith in
    record { many = c.min-n.ensures; words = rw e at c.loop-i.invariant.1 }
