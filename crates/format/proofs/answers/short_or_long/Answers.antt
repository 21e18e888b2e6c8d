use Rattle.format.proofs.TableForms.{short_or_long}
use Rattle.format.proofs.answers.short_or_long.Goals as goal

pub returns : goal.returns
returns c = short_or_long
