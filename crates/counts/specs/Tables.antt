-- What a count table says of the items that it was filled with. Assumes nothing.
use Rattle.std.specs.Prelude.{◌≡◌, ℕ, ◌<◌, ◌≤◌, Bool, List, length, slice_index_or}
use Rattle.format.specs.Ranked.{first, count}
use Rattle.counts.specs.declared.cells.CountCell.{CountCell}
use Rattle.counts.specs.declared.cells.Class.{Class}
use Rattle.counts.specs.Cells.{blank, first_at, count_at, rank_at, order_at}

-- item i's class: its first item, and its count
abbrev pub class_of : (n : ℕ) (same : ℕ → ℕ → Bool) → ℕ → Class
class_of n same i = record { first = first n same i; count = count n same i }

-- of each of n items the cells have the first that is the same, and in that one's cell how many are
pub record Filled (same : ℕ → ℕ → Bool) (n : ℕ) (cells : List CountCell) : Type 0 where
  pub long : n ≤ length cells
  pub inside : (i : ℕ) → i < n → first n same i < n
  pub firsts : (i : ℕ) → i < n → first_at cells i ≡ first n same i
  pub counts : (i : ℕ) → i < n → count_at cells (first n same i) ≡ count n same i

-- only the first n cells change, and of these neither the rank nor the order
pub record LeavesRanks (n : ℕ) (old new : List CountCell) : Type 0 where
  pub long : length new ≡ length old
  pub beyond : (k : ℕ) → n ≤ k → slice_index_or new k blank ≡ slice_index_or old k blank
  pub rank : (k : ℕ) → rank_at new k ≡ rank_at old k
  pub order : (k : ℕ) → order_at new k ≡ order_at old k
