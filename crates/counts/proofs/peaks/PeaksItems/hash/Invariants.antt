use Rattle.std.proofs.Common.{◌≡◌, take}
use Rattle.counts.specs.Rows.{hash_of}
use Rattle.counts.proofs.peaks.PeaksItems.hash.Given as goal

abbrev pub invariant-loop-value : goal.invariant-loop-value
invariant-loop-value l = l.hash.state ≡ hash_of (take l.value-index l.value-items)
