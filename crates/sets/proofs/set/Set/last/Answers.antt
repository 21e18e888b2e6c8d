use Rattle.std.proofs.Common.{arith}
use Rattle.sets.specs.OfSet.{stores, sound_of}
use Rattle.sets.proofs.Deal.{counts}
use Rattle.sets.proofs.set.Set.last.Goals as goal

pub returns-clause-few : goal.returns-clause-few
returns-clause-few c = let k = counts (stores c.args.self.now) (sound_of c.args.self.now) c.requires in omega arith
