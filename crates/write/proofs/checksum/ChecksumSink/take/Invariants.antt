use Rattle.std.proofs.Common.{◌≡◌, [], ◌∷◌, take, fold}
use Rattle.write.specs.Steps.{summed}
use Rattle.write.proofs.checksum.ChecksumSink.take.Given as goal

abbrev pub invariant-loop-b : goal.invariant-loop-b
invariant-loop-b l =
    (l.self.left ≡ l.initial.self.left)
    × (l.self.sum ∷ l.self.phase ∷ [] ≡ fold summed (l.initial.self.sum ∷ l.initial.self.phase ∷ []) (take l.b-index l.bytes))
