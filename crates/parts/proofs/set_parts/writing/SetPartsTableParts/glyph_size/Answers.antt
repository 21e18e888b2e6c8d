use Rattle.std.proofs.Common.{length, ◌∙◌}
use Rattle.format.specs.Glyphs.{glyph_bytes}
use Rattle.tables.specs.Parts.{glyph_at}
use Rattle.parts.proofs.set_parts.writing.SetPartsTableParts.glyph_size.Goals as goal

pub returns-clause-is : goal.returns-clause-is
unfolding glyph_at
returns-clause-is c =
    let s = c.store_of.ensures in
    c.exact_size.ensures.size ∙ (λ i. length (glyph_bytes (s.peaks i) (s.variations i)))
