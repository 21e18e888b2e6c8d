use Rattle.format.proofs.CompileAnswers.{granted_met_none}
use Rattle.format.proofs.answers.granted_met_none.Goals as goal

pub returns : goal.returns
returns c = granted_met_none
