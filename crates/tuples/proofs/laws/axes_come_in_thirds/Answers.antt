use Rattle.tuples.proofs.Tying.{axes_tied}
use Rattle.tuples.proofs.laws.axes_come_in_thirds.Goals as goal

pub returns : goal.returns
returns c = axes_tied
