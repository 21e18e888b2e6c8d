use Rattle.streams.proofs.RunSteps.{ends_here}
use Rattle.streams.proofs.runs.RunCursor.place.Goals as goal

pub returns-clause-past : goal.returns-clause-past
returns-clause-past g c past e =
    let s = c.args.self.now in
    ends_here g.P.Packing.form s.table.now s.state s.control s.at s.left s.packing past e
