use Rattle.std.proofs.Common.{◌≡◌, List}
use Rattle.streams.specs.Ahead.{give_all}
use Rattle.streams.specs.Runs.{ahead}
use Rattle.streams.proofs.Steps.{how_many}
use Rattle.streams.proofs.runs.RunCursor.past.Given as goal

abbrev pub invariant-loop : goal.invariant-loop
invariant-loop g l = (vs : List g.row.P-Value.Denot) × (ahead g.P.Packing.form l.fn.self ≡ give_all vs (ahead g.P.Packing.form l.self))

abbrev pub decreases-loop : goal.decreases-loop
decreases-loop g l = how_many (ahead g.P.Packing.form l.self)
