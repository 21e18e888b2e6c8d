use Rattle.std.proofs.Common.{◌≡◌, drop, fold}
use Rattle.format.specs.Glyphs.{required_from}
use Rattle.variations.specs.Deltas.{deltas_of}
use Rattle.counting.specs.PointSets.{mix_point}
use Rattle.counting.proofs.required.hash_required.Given as goal

abbrev pub invariant-loop-i : goal.invariant-loop-i
invariant-loop-i l = fold mix_point l.hash.state (required_from l.i (deltas_of (drop l.i l.deltas))) ≡ fold mix_point 0 (required_from 0 (deltas_of l.deltas))
