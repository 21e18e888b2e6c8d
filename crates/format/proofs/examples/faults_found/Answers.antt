use Rattle.format.proofs.Computed.{faults_found}
use Rattle.format.proofs.examples.faults_found.Goals as goal

pub returns : goal.returns
returns c = faults_found
