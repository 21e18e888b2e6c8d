-- What is asked of the stores, and done to them, when a variation is put in.
use Rattle.std.specs.Prelude.{◌≡◌, ℕ, ◌+◌, ◌-◌, ◌*◌, ◌<◌, ◌≤◌, List, map, length, take, drop, ℤ, slice_index_or}
use Rattle.std.proofs.Math.Seq.{paste}
use Rattle.format.specs.Account.{Variation}
use Rattle.variations.specs.declared.delta.GlyphDelta.{GlyphDelta}
use Rattle.sets.specs.declared.cells.GlyphCell.{GlyphCell}
use Rattle.sets.specs.Cells.{variations_in, blank_glyph}
use Rattle.tents.specs.declared.tent.Tent.{Tent}
use Rattle.tents.specs.Tents.{tent_of}
use Rattle.sets.specs.Layout.{Stores, dealt}

-- the stores with other values
abbrev pub with_values : Stores → List ℤ → Stores
with_values s xs = record {
  axes = s.axes;
  names = s.names;
  glyphs = s.glyphs;
  variations = s.variations;
  values = xs;
  deltas = s.deltas;
  begun = s.begun;
  added = s.added;
  moved = s.moved;
}

-- the stores with other deltas
abbrev pub with_deltas : Stores → List GlyphDelta → Stores
with_deltas s ds = record {
  axes = s.axes;
  names = s.names;
  glyphs = s.glyphs;
  variations = s.variations;
  values = s.values;
  deltas = ds;
  begun = s.begun;
  added = s.added;
  moved = s.moved;
}

-- the values after the first n tents were put in from a place on: their peaks, their starts, their ends
abbrev pub laid : List ℤ → ℕ → List Tent → ℕ → List ℤ
laid xs at ts n =
    let a = length ts in
    paste (paste (paste xs at (map (λ t. t.peak) ts) n) (at + a) (map (λ t. (tent_of t).start) ts) n) (at + a + a) (map (λ t. (tent_of t).end) ts) n

-- the cell of the glyph begun last
abbrev pub last_cell : Stores → GlyphCell
last_cell s = slice_index_or s.glyphs (s.begun - 1) blank_glyph

-- the cells before it
abbrev pub front : Stores → List GlyphCell
front s = take (s.begun - 1) s.glyphs

-- its variations
abbrev pub last_variations : Stores → List Variation
last_variations s = drop (variations_in (front s)) (dealt s)

-- nothing speaks against a variation with t tents and n deltas
pub record Admitted (s : Stores) (t n : ℕ) : Type 0 where
  pub begun : 0 < s.begun
  pub tents : t ≡ s.axes
  pub few_deltas : n ≤ 32767
  pub few_variations : (last_cell s).variations < 4095
  pub variations : s.added < length s.variations
  pub values : 3 * s.axes * s.added + 3 * s.axes ≤ length s.values
  pub deltas : s.moved + n ≤ length s.deltas
