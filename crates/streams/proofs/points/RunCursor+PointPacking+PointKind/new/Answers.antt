use Rattle.std.proofs.Common.{ap, ◌∙◌}
use Rattle.streams.specs.Ahead.{read_ahead}
use Rattle.streams.proofs.PointReading.{points_read}
use Rattle.streams.proofs.points.RunCursor+PointPacking+PointKind.new.Goals as goal

pub returns-clause-read : goal.returns-clause-read
returns-clause-read c d = ap (read_ahead d c.args.table.now) c.over.ensures.ahead ∙ points_read d c.args.p c.args.table.now c.args.count c.args.at
