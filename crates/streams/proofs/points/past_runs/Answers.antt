use Rattle.streams.proofs.PointReading.{past_is}
use Rattle.streams.proofs.points.past_runs.Goals as goal

pub returns : goal.returns
returns c = past_is c.args.table.now c.args.at c.args.p c.args.count c.new.result c.past.result c.new.ensures.ahead c.past.ensures
