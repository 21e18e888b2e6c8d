use Rattle.write.proofs.Feeding.{fed_whole}
use Rattle.variations.proofs.points.PackedPointNumbersFontWrite.feed.Goals as goal

pub returns-in-All : goal.returns-in-All
returns-in-All g c = rw c.in-All.is (fed_whole c.take.result c.take.ensures)
