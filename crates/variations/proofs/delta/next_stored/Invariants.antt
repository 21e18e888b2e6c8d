use Rattle.std.proofs.Common.{◌≡◌, ℕ, ◌<◌, ◌≤◌, false, get_or}
use Rattle.variations.specs.Deltas.{is_stored, no_delta}
use Rattle.variations.proofs.delta.next_stored.Given as goal

abbrev pub invariant-loop-i : goal.invariant-loop-i
invariant-loop-i l = (k : ℕ) → l.place ≤ k → k < l.i → is_stored l.all (get_or l.deltas k no_delta) ≡ false
