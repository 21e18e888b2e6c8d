use Rattle.format.proofs.CompileAnswers.{numbers_of_a_call}
use Rattle.format.proofs.answers.numbers_of_a_call.Goals as goal

pub returns : goal.returns
returns c = numbers_of_a_call
