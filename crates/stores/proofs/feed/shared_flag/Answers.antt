use Rattle.std.proofs.Common.{arith}
use Rattle.stores.proofs.Parts.{flag_is}
use Rattle.stores.proofs.feed.shared_flag.Goals as goal

pub returns-then-shared_size-gt0 : goal.returns-then-shared_size-gt0
returns-then-shared_size-gt0 g c = record { flag = (flag_is _ c.shared_size.result c.shared_size.ensures.size).0 (omega arith); most = omega arith }

pub returns-else-shared_size-gt0 : goal.returns-else-shared_size-gt0
returns-else-shared_size-gt0 g c = record { flag = (flag_is _ c.shared_size.result c.shared_size.ensures.size).1 (omega arith); most = omega arith }
