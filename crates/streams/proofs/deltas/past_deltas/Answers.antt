use Rattle.streams.proofs.DeltaReading.{past_is}
use Rattle.streams.proofs.deltas.past_deltas.Goals as goal

pub returns : goal.returns
returns c = past_is c.args.table.now c.args.at c.args.count c.new.result c.past.result c.new.ensures.ahead c.past.ensures
