-- Rules that reading back does not fix, each by an example: where runs end, ranks and ties, regions, short and long.
use Rattle.std.specs.Prelude.{◌≡◌, ℕ, true, false, List, [], ◌∷◌, take, drop, replicate, pos, negsuc}
use Rattle.std.proofs.Math.Option.{none, some}
use Rattle.format.specs.Account.{Given, Cells, glyph, variation, opened, after}
use Rattle.format.specs.Packed.{packed_deltas, packed_points, only}
use Rattle.format.specs.Glyphs.{listed, peaks_seen, shared_peaks, shared_points}
use Rattle.format.specs.Table.{is_short, table_bytes}
use Rattle.format.specs.Worked.{bytes_of_one}

-- the points 1 to n, packed
abbrev packed_from_one : ℕ → List ℕ
packed_from_one n = packed_points (only (listed 1 n (λ i. i)))

abbrev room : Cells
room = record { glyph = 9; variation = 9; axis = 99; delta = 9 }

-- one tent, with its peak here
abbrev at : ℕ → List Given
at p = record { peak = pos p; bounds = none } ∷ []

-- the rules, each by an example
pub record RulesHold : Type 0 where
  -- where runs of deltas end
  pub cuts :
      (packed_deltas (pos 300 ∷ pos 0 ∷ pos 300 ∷ [])  -- a word run before a zero
      ∷ packed_deltas (pos 300 ∷ pos 1 ∷ pos 0 ∷ [])  -- before a byte value followed by a zero
      ∷ packed_deltas (pos 300 ∷ pos 1 ∷ pos 1 ∷ [])  -- or by a byte value
      ∷ packed_deltas (pos 300 ∷ pos 1 ∷ [])  -- but not at the end
      ∷ packed_deltas (pos 1 ∷ pos 300 ∷ [])  -- a byte run before a word value
      ∷ packed_deltas (pos 1 ∷ pos 0 ∷ [])  -- but not before one zero
      ∷ packed_deltas (pos 0 ∷ pos 1 ∷ [])
      ∷ packed_deltas (pos 127 ∷ []) ∷ packed_deltas (pos 128 ∷ [])
      ∷ take 1 (packed_deltas (replicate 65 (pos 1))) ∷ drop 65 (packed_deltas (replicate 65 (pos 1)))
      ∷ take 1 (packed_deltas (replicate 65 (pos 300))) ∷ drop 129 (packed_deltas (replicate 65 (pos 300))) ∷ [])
      ≡ ((0x40 ∷ 0x01 ∷ 0x2C ∷ 0x80 ∷ 0x40 ∷ 0x01 ∷ 0x2C ∷ [])
      ∷ (0x40 ∷ 0x01 ∷ 0x2C ∷ 0x01 ∷ 0x01 ∷ 0x00 ∷ [])
      ∷ (0x40 ∷ 0x01 ∷ 0x2C ∷ 0x01 ∷ 0x01 ∷ 0x01 ∷ [])
      ∷ (0x41 ∷ 0x01 ∷ 0x2C ∷ 0x00 ∷ 0x01 ∷ [])
      ∷ (0x00 ∷ 0x01 ∷ 0x40 ∷ 0x01 ∷ 0x2C ∷ [])
      ∷ (0x01 ∷ 0x01 ∷ 0x00 ∷ [])
      ∷ (0x80 ∷ 0x00 ∷ 0x01 ∷ [])
      ∷ (0x00 ∷ 0x7F ∷ []) ∷ (0x40 ∷ 0x00 ∷ 0x80 ∷ [])
      ∷ (0x3F ∷ []) ∷ (0x00 ∷ 0x01 ∷ [])
      ∷ (0x7F ∷ []) ∷ (0x40 ∷ 0x01 ∷ 0x2C ∷ []) ∷ [])
  -- where runs of gaps end: a word run before a small gap; 128 gaps; counts of one byte and of two
  pub gap_cuts :
      (packed_points (only (300 ∷ 301 ∷ [])) ∷ take 2 (packed_from_one 127) ∷ take 3 (packed_from_one 128) ∷ take 3 (packed_from_one 129) ∷ drop 131 (packed_from_one 129) ∷ [])
      ≡ ((0x02 ∷ 0x80 ∷ 0x01 ∷ 0x2C ∷ 0x00 ∷ 0x01 ∷ []) ∷ (0x7F ∷ 0x7E ∷ []) ∷ (0x80 ∷ 0x80 ∷ 0x7F ∷ []) ∷ (0x80 ∷ 0x81 ∷ 0x7F ∷ []) ∷ (0x00 ∷ 0x01 ∷ []) ∷ [])
  -- peaks that occur as often: the order of calls decides, and not that of glyph numbers
  pub ties : shared_peaks (peaks_seen (after (opened 1 room)
      (glyph 1 ∷ variation (at 7) [] ∷ variation (at 5) [] ∷ glyph 0 ∷ variation (at 5) [] ∷ variation (at 7) [] ∷ variation (at 3) [] ∷ variation (at 9) [] ∷ variation (at 9) [] ∷ variation (at 9) [] ∷ [])).glyphs)
      ≡ (pos 9 ∷ []) ∷ (pos 7 ∷ []) ∷ (pos 5 ∷ []) ∷ []
  -- the score of a point set: one less than its count, times its size; of equal scores the earlier
  pub best_points :
      (shared_points (only (1 ∷ 2 ∷ 3 ∷ []) ∷ only (1 ∷ 2 ∷ 3 ∷ []) ∷ only (0 ∷ []) ∷ only (0 ∷ []) ∷ only (0 ∷ []) ∷ []) ≡ some (only (0 ∷ [])))
      × (shared_points (only (0 ∷ []) ∷ only (0 ∷ []) ∷ only (0 ∷ []) ∷ only (1 ∷ 2 ∷ 3 ∷ 4 ∷ 5 ∷ []) ∷ only (1 ∷ 2 ∷ 3 ∷ 4 ∷ 5 ∷ []) ∷ []) ≡ some (only (1 ∷ 2 ∷ 3 ∷ 4 ∷ 5 ∷ [])))
      × (shared_points (only (1 ∷ []) ∷ only (0 ∷ []) ∷ only (0 ∷ []) ∷ only (1 ∷ []) ∷ []) ≡ some (only (1 ∷ [])))
      × (shared_points (only (1 ∷ []) ∷ only (0 ∷ []) ∷ []) ≡ none)
  -- bounds given as they would be implied are not stored
  pub no_region : table_bytes 1 (after (opened 1 room)
      (glyph 0 ∷ variation (record { peak = pos 0x4000; bounds = some (pos 0, pos 0x4000) } ∷ []) (record { x = pos 10; y = negsuc 2; required = true } ∷ []) ∷ [])).glyphs
      ≡ bytes_of_one
  -- even-rounded sizes of 131,070 are short, of 131,072 long
  pub short_or_long : (is_short (replicate 65534 0 ∷ replicate 65535 0 ∷ []) ≡ true) × (is_short (replicate 65535 0 ∷ replicate 65535 0 ∷ []) ≡ false)
