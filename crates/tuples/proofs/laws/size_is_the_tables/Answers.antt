use Rattle.tuples.proofs.Tying.{size_tied}
use Rattle.tuples.proofs.laws.size_is_the_tables.Goals as goal

pub returns : goal.returns
returns c = size_tied
