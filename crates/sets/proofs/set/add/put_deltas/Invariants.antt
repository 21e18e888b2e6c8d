use Rattle.std.proofs.Common.{◌≡◌, take}
use Rattle.std.proofs.Math.Seq.{paste}
use Rattle.std.specs.List.{AllByRecursion}
use Rattle.format.specs.Account.{ShortDelta}
use Rattle.variations.specs.Deltas.{delta_of}
use Rattle.sets.proofs.set.add.put_deltas.Given as goal

abbrev pub invariant-loop-i : goal.invariant-loop-i
invariant-loop-i l = (l.store ≡ paste l.initial.store l.at l.deltas l.i) × AllByRecursion (λ d. ShortDelta (delta_of d)) (take l.i l.deltas)
