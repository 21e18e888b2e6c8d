use Rattle.tuples.proofs.Tying.{data_tied}
use Rattle.tuples.proofs.laws.data_is_the_tables.Goals as goal

pub returns : goal.returns
returns c = data_tied
