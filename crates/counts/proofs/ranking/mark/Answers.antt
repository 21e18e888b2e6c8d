use Rattle.std.proofs.Common.{arith}
use Rattle.counts.proofs.Marks.{marked_more}
use Rattle.counts.proofs.ranking.mark.Goals as goal

pub loop-r-preserved : goal.loop-r-preserved
loop-r-preserved c = marked_more c.args.k c.loop-r.r c.args.cells.now c.loop-r.cells (omega arith) c.requires.inside c.requires.apart c.loop-r.invariant
