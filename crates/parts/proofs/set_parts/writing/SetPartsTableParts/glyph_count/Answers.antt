use Rattle.parts.specs.OfParts.{parts_glyphs}
use Rattle.parts.proofs.set_parts.writing.SetPartsTableParts.glyph_count.Goals as goal

pub returns-clause-is : goal.returns-clause-is
unfolding parts_glyphs
returns-clause-is c = c.glyph_count.ensures.is
