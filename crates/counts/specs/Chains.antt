-- A count table under way: m items are counted, and each bucket of hashes has a chain of first items. Assumes nothing.
use Rattle.std.specs.Prelude.{◌≡◌, ℕ, ◌%◌, ◌<◌, ◌≤◌, Bool, List, length, Option, MatchOption}
use Rattle.format.specs.Ranked.{count_below, first}
use Rattle.counts.specs.declared.cells.CountCell.{CountCell}
use Rattle.counts.specs.Cells.{first_at, count_at, head_at, next_at}

module _ (alike : ℕ → ℕ → Bool) (code : ℕ → ℕ) (n : ℕ) where
  -- g is a first item in bucket b
  pub record Chained (b g : ℕ) : Type 0 where
    pub own : first n alike g ≡ g
    pub bucket : code g % n ≡ b

  -- j is the last first item below m in bucket b
  pub record Latest (b m j : ℕ) : Type 0 where
    pub inside : j < m
    pub chained : Chained b j
    pub last : (g : ℕ) → g < m → Chained b g → g ≤ j

  -- x is the last first item below m in bucket b, if there is one
  abbrev pub Link : (b m : ℕ) → Option ℕ → Type 0
  Link b m x = MatchOption x ((g : ℕ) → g < m → Chained b g → ⊥) (Latest b m)

  -- the cells after m items
  pub record State (m : ℕ) (cells : List CountCell) : Type 0 where
    pub long : n ≤ length cells
    pub firsts : (k : ℕ) → k < m → first_at cells k ≡ first n alike k
    pub counts : (k : ℕ) → k < m → first n alike k ≡ k → count_at cells k ≡ count_below m (λ j. alike j k)
    pub heads : (b : ℕ) → b < n → Link b m (head_at cells b)
    pub nexts : (j : ℕ) → j < m → first n alike j ≡ j → Link (code j % n) j (next_at cells j)

  -- the search for item i's first item stands at item j of its bucket
  pub record Reached (i j : ℕ) : Type 0 where
    pub inside : j < i
    pub chained : Chained (code i % n) j
    pub below : first n alike i < i → first n alike i ≤ j

  -- it stands at item x, or at the chain's end: then item i is new
  abbrev pub Walk : (i : ℕ) → Option ℕ → Type 0
  Walk i x = MatchOption x (i ≡ first n alike i) (Reached i)
