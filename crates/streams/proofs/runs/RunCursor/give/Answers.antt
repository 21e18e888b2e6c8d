use Rattle.std.proofs.Common.{sym}
use Rattle.streams.proofs.RunSteps.{refuses_value, gives_value}
use Rattle.streams.proofs.runs.RunCursor.give.Goals as goal

pub returns-in_default : goal.returns-in_default
returns-in_default g c = rw c.blame.ensures (refuses_value g.P.Packing.form c.args.self.now c.args.kind c.args.n c.requires (sym c.in_default.ensures))

pub returns : goal.returns
returns g c = gives_value g.P.Packing.form c.args.self.now c.args.kind c.args.n c.run_state-self.result c.in-Some.u c.requires c.run_state-self.ensures (sym c.in-Some.ensures)
