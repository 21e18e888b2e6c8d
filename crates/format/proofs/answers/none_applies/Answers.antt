use Rattle.format.proofs.Firsts.{none_that_applies}
use Rattle.format.proofs.answers.none_applies.Goals as goal

pub returns : goal.returns
returns c = none_that_applies
