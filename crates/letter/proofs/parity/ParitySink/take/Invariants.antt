use Rattle.std.proofs.Common.{◌≡◌, [], ◌∷◌, take, fold}
use Rattle.letter.specs.Parity.{mixed}
use Rattle.letter.proofs.parity.ParitySink.take.Given as goal

abbrev pub invariant-loop-b : goal.invariant-loop-b
invariant-loop-b l =
    (l.self.left ≡ l.initial.self.left)
    × (l.self.bits ∷ [] ≡ fold mixed (l.initial.self.bits ∷ []) (take l.b-index l.bytes))
