use Rattle.std.proofs.Common.{arith}
use Rattle.tuples.proofs.Choosing.{coordinates_size}
use Rattle.tuples.proofs.choice.Coordinates.compute_size.Goals as goal

pub returns : goal.returns
returns c =
    let v = c.args.self.now in
    let p = rw c.packed-xs.ensures at c.compute_size.ensures in
    let q = rw c.packed-ys.ensures at c.compute_size-2.ensures in
    record { size = coordinates_size v.all v.deltas.now _ _ p.size q.size; most = omega (arith, p.most, q.most) }
