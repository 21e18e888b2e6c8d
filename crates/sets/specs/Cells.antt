-- What the cells of a store say, one by one and together.
use Rattle.std.specs.Prelude.{ℕ, ◌+◌, false, List, [], ◌∷◌, Option, slice_index_or}
use Rattle.links.specs.Links.{linked, no_link}
use Rattle.sets.specs.declared.cells.GlyphCell.{GlyphCell}
use Rattle.sets.specs.declared.cells.VariationCell.{VariationCell}

-- a glyph cell of zeros, without a head and a next
abbrev pub blank_glyph : GlyphCell
blank_glyph = record { number = 0; variations = 0; first = 0; head = no_link; next = no_link }

-- a variation cell of zeros
abbrev pub blank_variation : VariationCell
blank_variation = record { deltas = 0; start = 0; stored = record { all = false; points = 0; values = 0 } }

-- the number of the glyph at place i
abbrev pub number_at : List GlyphCell → ℕ → ℕ
number_at cs i = (slice_index_or cs i blank_glyph).number

-- how many variations it has
abbrev pub count_at : List GlyphCell → ℕ → ℕ
count_at cs i = (slice_index_or cs i blank_glyph).variations

-- the place of the first of them
abbrev pub first_at : List GlyphCell → ℕ → ℕ
first_at cs i = (slice_index_or cs i blank_glyph).first

-- the head of bucket i
abbrev pub head_at : List GlyphCell → ℕ → Option ℕ
head_at cs i = linked (slice_index_or cs i blank_glyph).head

-- the link from the glyph at place i to the one before it in its bucket
abbrev pub next_at : List GlyphCell → ℕ → Option ℕ
next_at cs i = linked (slice_index_or cs i blank_glyph).next

-- how many deltas variation i has
abbrev pub deltas_at : List VariationCell → ℕ → ℕ
deltas_at cs i = (slice_index_or cs i blank_variation).deltas

-- the place of the first of them
abbrev pub start_at : List VariationCell → ℕ → ℕ
start_at cs i = (slice_index_or cs i blank_variation).start

-- how many variations the glyphs have together
abbrev pub variations_in : List GlyphCell → ℕ
variations_in [] = 0
variations_in (c ∷ cs) = c.variations + variations_in cs

-- how many deltas the variations have together
abbrev pub deltas_in : List VariationCell → ℕ
deltas_in [] = 0
deltas_in (c ∷ cs) = c.deltas + deltas_in cs
