use Rattle.format.proofs.Computed.{one_answers}
use Rattle.format.proofs.examples.one_answers.Goals as goal

pub returns : goal.returns
returns c = one_answers
