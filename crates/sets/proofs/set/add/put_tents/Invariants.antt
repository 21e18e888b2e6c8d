use Rattle.std.proofs.Common.{◌≡◌, take}
use Rattle.std.specs.List.{AllByRecursion}
use Rattle.format.specs.Account.{ShortTent}
use Rattle.tents.specs.Tents.{tent_of}
use Rattle.sets.specs.Writing.{laid}
use Rattle.sets.proofs.set.add.put_tents.Given as goal

abbrev pub invariant-loop-i : goal.invariant-loop-i
invariant-loop-i l = (l.values ≡ laid l.initial.values l.at l.tents l.i) × AllByRecursion (λ t. ShortTent (tent_of t)) (take l.i l.tents)
