use Rattle.tuples.proofs.Tying.{points_tied}
use Rattle.tuples.proofs.laws.points_are_the_tables.Goals as goal

pub returns : goal.returns
returns c = points_tied
