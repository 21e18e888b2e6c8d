use Rattle.std.proofs.Common.{sym}
use Rattle.sets.specs.OfSet.{stores, sound_of}
use Rattle.sets.proofs.Full.{count_is}
use Rattle.sets.proofs.Shown.{all_long}
use Rattle.sets.proofs.set.Set.variation_count.Goals as goal

pub returns : goal.returns
returns c =
    let s = c.args.self.now in
    record { is = count_is (stores s) (sound_of s); all = sym (all_long (stores s) (sound_of s)) }
