use Rattle.format.proofs.Computed.{rules_hold}
use Rattle.format.proofs.examples.rules_hold.Goals as goal

pub returns : goal.returns
returns c = rules_hold
