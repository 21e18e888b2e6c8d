use Rattle.tuples.proofs.Tying.{header_tied}
use Rattle.tuples.proofs.laws.header_is_the_tables.Goals as goal

pub returns : goal.returns
returns c = header_tied
