-- Which items are marked: those of the best class, if it has more than one. Assumes nothing.
use Rattle.std.specs.Prelude.{◌≡◌, ℕ, ◌≤◌, Bool, false, ◌&&◌, List, length, get_or, Some, None, Option, ◌==◌, nat_lt, slice_index_or}
use Rattle.format.specs.Ranked.{first, count, is_first, ranked}
use Rattle.counts.specs.declared.cells.CountCell.{CountCell}
use Rattle.counts.specs.declared.cells.Class.{Class}
use Rattle.counts.specs.Cells.{blank, repeats_as, marked_at}

-- item i is the first of a class of more than one
abbrev pub repeats : (n : ℕ) (same : ℕ → ℕ → Bool) → ℕ → Bool
repeats n same i = is_first n same i && nat_lt 1 (count n same i)

-- the same, as its cell says
abbrev pub repeats_in : List CountCell → ℕ → Bool
repeats_in cells i = repeats_as (get_or cells i blank) i

-- the class has more than one item, and f is the first of them
abbrev pub led_by : Option Class → ℕ → Bool
led_by None f = false
led_by (Some c) f = nat_lt 1 c.count && f == c.first

-- item i is of the best class, which has more than one
abbrev pub of_best : (n : ℕ) (same : ℕ → ℕ → Bool) (score : ℕ → ℕ) → ℕ → Bool
of_best n same score i = nat_lt 1 (count n same (ranked n same score 0)) && first n same i == ranked n same score 0

-- only the marks of the first n cells change
pub record LeavesUnmarked (n : ℕ) (old new : List CountCell) : Type 0 where
  pub long : length new ≡ length old
  pub beyond : (k : ℕ) → n ≤ k → slice_index_or new k blank ≡ slice_index_or old k blank
  pub rest : (k : ℕ) → slice_index_or new k blank ≡ record (slice_index_or old k blank) { marked = marked_at new k }
