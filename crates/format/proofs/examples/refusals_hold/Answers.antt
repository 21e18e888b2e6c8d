use Rattle.format.proofs.Computed.{refusals_hold}
use Rattle.format.proofs.examples.refusals_hold.Goals as goal

pub returns : goal.returns
returns c = refusals_hold
