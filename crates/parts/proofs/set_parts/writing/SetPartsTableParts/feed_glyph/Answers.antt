use Rattle.format.specs.Glyphs.{glyph_bytes}
use Rattle.tables.specs.Parts.{glyph_at}
use Rattle.write.proofs.Feeding.{fed_as}
use Rattle.parts.proofs.set_parts.writing.SetPartsTableParts.feed_glyph.Goals as goal

pub returns : goal.returns
unfolding glyph_at
returns g c =
    let s = c.store_of.ensures in
    fed_as (λ i. glyph_bytes (s.peaks i) (s.variations i)) c.feed_store.ensures
