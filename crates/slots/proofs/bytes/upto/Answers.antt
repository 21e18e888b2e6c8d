use Rattle.std.proofs.Common.{sym, arith, take_all}
use Rattle.slots.proofs.bytes.upto.Goals as goal

pub returns-else-end-bytes : goal.returns-else-end-bytes
returns-else-end-bytes c = sym (take_all c.args.end c.args.bytes.now (omega arith))
