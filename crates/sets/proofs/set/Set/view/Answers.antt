use Rattle.std.proofs.Common.{arith}
use Rattle.sets.specs.OfSet.{stores, sound_of}
use Rattle.sets.proofs.Shown.{all_long}
use Rattle.sets.proofs.set.Set.view.Goals as goal

pub shown-requires : goal.shown-requires
shown-requires c = let l = all_long (stores c.args.self.now) (sound_of c.args.self.now) in omega arith
