use Rattle.format.proofs.TableFound.{faults_have_their_numbers}
use Rattle.format.proofs.found.faults_have_their_numbers.Goals as goal

pub returns : goal.returns
returns c = faults_have_their_numbers
