-- How the cells of the four stores hold an account.
use Rattle.std.specs.Prelude.{ℕ, ◌-◌, ◌*◌, List, [], ◌∷◌, length, take, drop, ℤ}
use Rattle.format.specs.Account.{Account, Glyph, Variation, Cells, Tent}
use Rattle.variations.specs.declared.delta.GlyphDelta.{GlyphDelta}
use Rattle.variations.specs.Deltas.{deltas_of}
use Rattle.sets.specs.declared.cells.GlyphCell.{GlyphCell}
use Rattle.sets.specs.declared.cells.VariationCell.{VariationCell}

-- the four stores, the ghost names by which their lender knows them again, and how many cells are in use
pub record Stores : Type 0 where
  pub axes : ℕ
  pub names : List ℕ
  pub glyphs : List GlyphCell
  pub variations : List VariationCell
  pub values : List ℤ
  pub deltas : List GlyphDelta
  pub begun : ℕ
  pub added : ℕ
  pub moved : ℕ

-- peaks, starts and ends, axis by axis
abbrev pub tents_of : List ℤ → List ℤ → List ℤ → List Tent
tents_of [] ss es = []
tents_of (p ∷ ps) [] es = []
tents_of (p ∷ ps) (s ∷ ss) [] = []
tents_of (p ∷ ps) (s ∷ ss) (e ∷ es) = record { peak = p; start = s; end = e } ∷ tents_of ps ss es

-- one variation with n deltas, read from the front of the values and the deltas
abbrev pub read : ℕ → ℕ → List ℤ → List GlyphDelta → Variation
read a n xs ds = record { tents = tents_of (take a xs) (take a (drop a xs)) (take a (drop (2 * a) xs)); deltas = deltas_of (take n ds) }

-- each variation has 3 a axis values, its peaks, starts and ends, and as many deltas as its cell says
abbrev pub deal : ℕ → List VariationCell → List ℤ → List GlyphDelta → List Variation
deal a [] xs ds = []
deal a (c ∷ cs) xs ds = read a c.deltas xs ds ∷ deal a cs (drop (3 * a) xs) (drop c.deltas ds)

-- each glyph has as many variations as its cell says
abbrev pub groups : List GlyphCell → List Variation → List Glyph
groups [] vs = []
groups (c ∷ cs) vs = record { number = c.number; variations = take c.variations vs } ∷ groups cs (drop c.variations vs)

-- the variations in the order of the accepted calls
abbrev pub dealt : Stores → List Variation
dealt s = deal s.axes (take s.added s.variations) s.values s.deltas

-- the account that the stores hold
abbrev pub account_in : Stores → Account
account_in s = record {
  axes = s.axes;
  free = record {
    glyph = length s.glyphs - s.begun;
    variation = length s.variations - s.added;
    axis = length s.values - 3 * s.axes * s.added;
    delta = length s.deltas - s.moved;
  };
  glyphs = groups (take s.begun s.glyphs) (dealt s);
}

-- what their lender knows of the stores: names and lengths
pub record Lent : Type 0 where
  pub names : List ℕ
  pub cells : Cells

-- as the stores stand
abbrev pub lent_in : Stores → Lent
lent_in s = record {
  names = s.names;
  cells = record { glyph = length s.glyphs; variation = length s.variations; axis = length s.values; delta = length s.deltas };
}
