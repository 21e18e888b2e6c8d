use Rattle.format.proofs.Firsts.{first_that_applies}
use Rattle.format.proofs.answers.first_that_applies.Goals as goal

pub returns : goal.returns
returns c = first_that_applies
