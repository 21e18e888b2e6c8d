use Rattle.format.proofs.Computed.{edges_read_back}
use Rattle.format.proofs.examples.edges_read_back.Goals as goal

pub returns : goal.returns
returns c = edges_read_back
