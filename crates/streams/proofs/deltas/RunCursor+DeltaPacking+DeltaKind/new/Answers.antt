use Rattle.std.proofs.Common.{ap, ◌∙◌}
use Rattle.streams.specs.Ahead.{read_ahead}
use Rattle.streams.proofs.DeltaReading.{deltas_read}
use Rattle.streams.proofs.deltas.RunCursor+DeltaPacking+DeltaKind.new.Goals as goal

pub returns-clause-read : goal.returns-clause-read
returns-clause-read c d = ap (read_ahead d c.args.table.now) c.over.ensures.ahead ∙ deltas_read d c.args.table.now c.args.count c.args.at
