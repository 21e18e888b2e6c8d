use Rattle.std.proofs.Common.{refl}
use Rattle.counts.specs.Cells.{entered}
use Rattle.counts.proofs.filling.enter.Goals as goal

pub returns : goal.returns
unfolding entered
returns c = refl
