use Rattle.format.proofs.PointsInside.{points_stay_inside}
use Rattle.format.proofs.found.points_stay_inside.Goals as goal

pub returns : goal.returns
returns c = points_stay_inside
