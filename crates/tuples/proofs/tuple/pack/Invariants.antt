use Rattle.std.proofs.Common.{◌≡◌, ◌*◌, length, take}
use Rattle.format.specs.Bytes.{signed_words}
use Rattle.tuples.proofs.tuple.pack.Given as goal

abbrev pub invariant-loop-i : goal.invariant-loop-i
invariant-loop-i l = (length l.bytes ≡ 128) × (take (2 * l.i) l.bytes ≡ signed_words (take l.i l.values))
