use Rattle.std.proofs.Common.{arith}
use Rattle.write.proofs.Laws.{handed_full}
use Rattle.write.proofs.sink.ready.Goals as goal

pub returns-then-n-allowance : goal.returns-then-n-allowance
returns-then-n-allowance g c = record { told = λ bs e. handed_full (omega arith) }

pub returns : goal.returns
returns g c = record { told = omega arith }
