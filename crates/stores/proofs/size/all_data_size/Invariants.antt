use Rattle.std.proofs.Common.{◌≡◌, ℕ, ◌+◌, ◌*◌, ◌≤◌, List, length}
use Rattle.format.specs.Account.{Condition, first_of}
use Rattle.stores.specs.Parts.{data_in, all_data}
use Rattle.stores.specs.Sizes.{data_tests}
use Rattle.stores.proofs.Joining.{left_at}
use Rattle.stores.proofs.size.all_data_size.Given as goal

abbrev pub invariant-loop-j : goal.invariant-loop-j
invariant-loop-j g l =
    let vs = g.T.TupleVariations.variations l.store in
    (l.size + length (left_at (data_in vs) vs l.j) ≡ length (all_data vs)) × (l.size ≤ 65535 * l.j)
    × ((k : ℕ) (cs : List Condition) → first_of (data_tests k vs 0 cs) ≡ first_of (data_tests k vs l.j cs))
