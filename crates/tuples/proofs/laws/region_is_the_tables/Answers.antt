use Rattle.tuples.proofs.Tying.{region_tied}
use Rattle.tuples.proofs.laws.region_is_the_tables.Goals as goal

pub returns : goal.returns
returns c = region_tied
