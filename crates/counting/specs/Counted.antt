-- What the count cells hold of a set's glyphs, once its peaks and its point sets are counted.
use Rattle.std.specs.Prelude.{◌≡◌, ℕ, ◌<◌, ◌≤◌, Bool, false, List, map, length, ℤ, slice_index_or}
use Rattle.format.specs.Account.{Variation, Glyph}
use Rattle.format.specs.Bytes.{joined}
use Rattle.format.specs.Glyphs.{peaks_seen, same_peak, peak_score, stored_points, point_sets, shared_points, is_shared}
use Rattle.format.specs.Ranked.{ranked}
use Rattle.counts.specs.declared.cells.CountCell.{CountCell}
use Rattle.counts.specs.Cells.{rank_at, order_at, marked_at}
use Rattle.counts.specs.Ranking.{classes, rank_of}

-- which variations of a glyph have the points that it shares
abbrev pub marks : List Variation → List Bool
marks vs = map (λ v. is_shared (shared_points (point_sets vs)) (stored_points v.deltas)) vs

-- the same of all glyphs, in the order of the accepted calls
abbrev pub all_marks : List Glyph → List Bool
all_marks gs = joined (map (λ g. marks g.variations) gs)

-- the rank of each variation's peak
abbrev pub RanksHeld : List (List ℤ) → List CountCell → Type 0
RanksHeld ps cells = (i : ℕ) → i < length ps → rank_at cells i ≡ rank_of (length ps) (same_peak ps) (peak_score ps) i

-- of each rank the first variation with a peak of that rank
abbrev pub OrdersHeld : List (List ℤ) → List CountCell → Type 0
OrdersHeld ps cells = (r : ℕ) → r < classes (length ps) (same_peak ps) → order_at cells r ≡ ranked (length ps) (same_peak ps) (peak_score ps) r

-- whether each variation has the points that its glyph shares
abbrev pub MarksHeld : List Glyph → List CountCell → Type 0
MarksHeld gs cells = (i : ℕ) → i < length (all_marks gs) → marked_at cells i ≡ slice_index_or (all_marks gs) i false

pub record Counted (gs : List Glyph) (cells : List CountCell) : Type 0 where
  pub long : length (peaks_seen gs) ≤ length cells
  pub ranks : RanksHeld (peaks_seen gs) cells
  pub orders : OrdersHeld (peaks_seen gs) cells
  pub marks_are : MarksHeld gs cells
