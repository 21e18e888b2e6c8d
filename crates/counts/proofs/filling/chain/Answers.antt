use Rattle.std.proofs.Common.{refl, arith}
use Rattle.counts.specs.Cells.{chained}
use Rattle.counts.proofs.filling.chain.Goals as goal

pub returns : goal.returns
unfolding chained
returns c = rw (c.of.ensures.item (omega (arith, c.requires.within))) refl
