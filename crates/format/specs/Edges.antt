-- Tables of edge cases, each read back by computation.
use Rattle.std.specs.Prelude.{◌≡◌, ℕ, ◌*◌, ◌%◌, true, false, cond, List, [], ◌∷◌, map, length, ℤ, pos, negsuc, ◌==◌}
use Rattle.std.proofs.Math.Option.{none, some}
use Rattle.format.specs.Account.{Delta, Variation, Glyph, Account, Cells, Given, glyph, variation, opened, after, declined}
use Rattle.format.specs.Glyphs.{stores_all, stored_points, stored_deltas, xs_of, ys_of, listed, peaks_seen, shared_peaks}
use Rattle.format.specs.Table.{table_bytes}
use Rattle.format.specs.Streams.{Read, fault, found}
use Rattle.format.specs.Reader.{Entry, read_glyph, moves_of, points_of}

abbrev room : Cells
room = record { glyph = 10; variation = 100; axis = 1000; delta = 10000 }

-- the entry that a variation should be read as
abbrev expected : Variation → Entry
expected v =
    record {
      peak = map (λ t. t.peak) v.tents;
      start = map (λ t. t.start) v.tents;
      end = map (λ t. t.end) v.tents;
      moves = moves_of (points_of (length v.deltas) (stored_points v.deltas)) (xs_of (stored_deltas v.deltas)) (ys_of (stored_deltas v.deltas));
    }

-- the number of points to read a glyph with; any does where it has no variations
abbrev number_of_deltas : List Variation → ℕ
number_of_deltas [] = 7
number_of_deltas (v ∷ vs) = length v.deltas

abbrev expected_all : List Glyph → List (Read (List Entry))
expected_all gs = map (λ g. found (map expected g.variations)) gs

unfoldable pub read_all : List ℕ → List Glyph → List (Read (List Entry))
read_all t gs = map (λ g. read_glyph t g.number (number_of_deltas g.variations)) gs

-- each glyph of the account is read back from its table
unfoldable pub ReadsBack : Account → Type 0
ReadsBack A = read_all (table_bytes A.axes A.glyphs) A.glyphs ≡ expected_all A.glyphs

abbrev needed : ℤ → ℤ → Delta
needed x y = record { x = x; y = y; required = true }

abbrev optional : ℤ → ℤ → Delta
optional x y = record { x = x; y = y; required = false }

-- a tent without bounds, and one with them
abbrev up : ℤ → Given
up p = record { peak = p; bounds = none }

abbrev within : ℤ → ℤ → ℤ → Given
within p s e = record { peak = p; bounds = some (s, e) }

-- so many deltas, the multiples of s required
abbrev deltas : ℕ → ℕ → ℕ → List Delta
deltas n s k = listed 0 n (λ i. record { x = cond (i % 3 == 0) (pos (i * k)) (negsuc i); y = cond (i % 5 == 0) (pos 0) (pos i); required = (i % s == 0) })

-- two axes, shared peaks of two ranks, regions, shared and private points
unfoldable pub many : Account
many =
    after (opened 2 room)
    (glyph 1
    ∷ variation (up (pos 1000) ∷ up (negsuc 16383) ∷ []) (deltas 40 20 3)
    ∷ variation (up (pos 1) ∷ up (pos 2) ∷ []) (deltas 40 20 300)
    ∷ variation (within (pos 1) (negsuc 9) (pos 5) ∷ up (pos 2) ∷ []) (deltas 40 7 300)
    ∷ variation (up (pos 1) ∷ up (pos 2) ∷ []) (deltas 40 1 300)
    ∷ glyph 0
    ∷ variation (up (pos 1000) ∷ up (negsuc 16383) ∷ []) (deltas 5 2 3)
    ∷ variation (up (pos 77) ∷ up (pos 0) ∷ []) (deltas 5 2 3)
    ∷ glyph 2
    ∷ [])

-- 130 required points of 780, with a two-byte count, and gaps of words
unfoldable pub long_lists : Account
long_lists =
    after (opened 1 room)
    (glyph 0
    ∷ variation (up (pos 1000) ∷ []) (deltas 780 6 1)
    ∷ variation (up (pos 1001) ∷ []) (deltas 780 300 1)
    ∷ [])

-- one glyph without variations
abbrev bare : List Glyph
bare = record { number = 0; variations = [] } ∷ []

-- the edge cases, each read back
pub record EdgesReadBack : Type 0 where
  -- no axes, glyphs begun out of order, one without variations
  pub no_axes : ReadsBack (after (opened 0 room) (glyph 1 ∷ glyph 0 ∷ variation [] (needed (pos 1) (negsuc 0) ∷ []) ∷ variation [] (needed (pos 200) (negsuc 299) ∷ []) ∷ []))
  -- no deltas, with shared and private points
  pub no_deltas : ReadsBack (after (opened 1 room) (glyph 0 ∷ variation (up (pos 5) ∷ []) [] ∷ glyph 1 ∷ variation (up (pos 6) ∷ []) [] ∷ variation (up (pos 5) ∷ []) [] ∷ []))
  -- all optional
  pub all_optional : ReadsBack (after (opened 1 room) (glyph 0 ∷ variation (up (negsuc 5) ∷ []) (optional (pos 0) (pos 0) ∷ optional (pos 0) (pos 1) ∷ []) ∷ []))
  pub reads_many : ReadsBack many
  pub many_shares : shared_peaks (peaks_seen many.glyphs) ≡ (pos 1 ∷ pos 2 ∷ []) ∷ (pos 1000 ∷ negsuc 16383 ∷ []) ∷ []
  pub reads_long_lists : ReadsBack long_lists
  -- the long lists are stored as the required points, and so are shared points of `many`
  pub stored_sparse : (stores_all (deltas 780 6 1) ≡ false) × (stores_all (deltas 780 300 1) ≡ false) × (stores_all (deltas 40 20 300) ≡ false)
  -- a set without glyphs has a table of 22 bytes
  pub empty_set : length (table_bytes 3 []) ≡ 22
  -- a glyph without variations is read with any number of points up to 32,767
  pub any_number_of_points : (read_glyph (table_bytes 3 bare) 0 32767 ≡ found []) × (read_glyph (table_bytes 3 bare) 0 32768 ≡ fault (declined 20 (some 0) none none))
