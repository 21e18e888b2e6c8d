use Rattle.write.specs.Sinks.{Part}
use Rattle.stores.specs.Parts.{data_in, all_data}
use Rattle.stores.proofs.Joining.{left_at}
use Rattle.stores.proofs.feed.feed_all_data.Given as goal

abbrev pub invariant-loop-j : goal.invariant-loop-j
invariant-loop-j g l =
    let s = g.S.Sink in
    let t = g.T.TupleVariations in
    let vs = t.variations l.store in
    Part s.step (all_data vs) (left_at (data_in vs) vs l.j) (s.stands l.initial.sink) (s.stands l.sink)
