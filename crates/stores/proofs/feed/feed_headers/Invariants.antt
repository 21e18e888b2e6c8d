use Rattle.write.specs.Sinks.{Part}
use Rattle.stores.specs.Parts.{header_in, all_headers}
use Rattle.stores.proofs.Joining.{left_at}
use Rattle.stores.proofs.feed.feed_headers.Given as goal

abbrev pub invariant-loop-j : goal.invariant-loop-j
invariant-loop-j g l =
    let s = g.S.Sink in
    let t = g.T.TupleVariations in
    let ps = t.peaks l.store in
    let vs = t.variations l.store in
    Part s.step (all_headers ps vs) (left_at (header_in ps vs) vs l.j) (s.stands l.initial.sink) (s.stands l.sink)
