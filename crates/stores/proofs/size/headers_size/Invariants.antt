use Rattle.std.proofs.Common.{◌≡◌, ◌+◌, ◌*◌, ◌≤◌, length}
use Rattle.stores.specs.Parts.{header_in, all_headers}
use Rattle.stores.proofs.Joining.{left_at}
use Rattle.stores.proofs.size.headers_size.Given as goal

abbrev pub invariant-loop-j : goal.invariant-loop-j
invariant-loop-j g l =
    let t = g.T.TupleVariations in
    let ps = t.peaks l.store in
    let vs = t.variations l.store in
    (l.size + length (left_at (header_in ps vs) vs l.j) ≡ length (all_headers ps vs)) × (l.size ≤ 1048576 * l.j)
