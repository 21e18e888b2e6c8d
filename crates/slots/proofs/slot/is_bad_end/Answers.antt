use Rattle.std.proofs.Common.{arith}
use Rattle.slots.proofs.SlotSteps.{end_none, end_one, end_more}
use Rattle.slots.proofs.slot.is_bad_end.Goals as goal

pub returns-then-have-eq0 : goal.returns-then-have-eq0
returns-then-have-eq0 c = end_none c.args.table.now c.args.at (omega arith)

pub returns-then-have-gt1 : goal.returns-then-have-gt1
returns-then-have-gt1 c = end_more c.args.table.now c.args.at (omega arith)

pub returns : goal.returns
returns c = end_one c.args.table.now c.args.at (omega arith)
