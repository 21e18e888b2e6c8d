use Rattle.std.proofs.Common.{◌≡◌, ◌+◌, ◌*◌, ◌≤◌, length}
use Rattle.stores.specs.Parts.{data_in, all_data}
use Rattle.stores.proofs.Joining.{left_at}
use Rattle.stores.proofs.size.data_total.Given as goal

abbrev pub invariant-loop-j : goal.invariant-loop-j
invariant-loop-j g l =
    let vs = g.T.TupleVariations.variations l.store in
    (l.size + length (left_at (data_in vs) vs l.j) ≡ length (all_data vs)) × (l.size ≤ 1048576 * l.j)
