use Rattle.format.proofs.DeltasInside.{deltas_stay_inside}
use Rattle.format.proofs.found.deltas_stay_inside.Goals as goal

pub returns : goal.returns
returns c = deltas_stay_inside
