-- What the count cells keep, and how far they are marked, while the glyphs' point sets are counted.
use Rattle.std.specs.Prelude.{◌≡◌, ℕ, ◌+◌, ◌<◌, false, List, length, take, slice_index_or}
use Rattle.format.specs.Account.{Glyph}
use Rattle.counts.specs.declared.cells.CountCell.{CountCell}
use Rattle.counts.specs.Cells.{rank_at, order_at, marked_at}
use Rattle.sets.specs.declared.view.Span.{Span}
use Rattle.sets.specs.Views.{all_variations}
use Rattle.counting.specs.Counted.{marks, all_marks}
use Rattle.counting.specs.PointSets.{spanned}

-- every cell keeps its rank and its order
pub record KeepsRanks (old new : List CountCell) : Type 0 where
  pub rank : (k : ℕ) → rank_at new k ≡ rank_at old k
  pub order : (k : ℕ) → order_at new k ≡ order_at old k

-- the variations of the first p glyphs are marked
abbrev pub MarkedTo : List Glyph → ℕ → List CountCell → Type 0
MarkedTo gs p cells = (i : ℕ) → i < length (all_variations (take p gs)) → marked_at cells i ≡ slice_index_or (all_marks gs) i false

-- the cells say which variations of a span have the points that these share
abbrev pub MarkedFrom : List Glyph → Span → List CountCell → Type 0
MarkedFrom gs p cells = (j : ℕ) → j < p.count → marked_at cells (p.first + j) ≡ slice_index_or (marks (spanned gs p)) j false
