-- What the store of a glyph holds.
use Rattle.std.specs.Prelude.{List, ℤ}
use Rattle.format.specs.Account.{Variation}
use Rattle.format.specs.Glyphs.{peaks_seen}
use Rattle.sets.specs.OfSet.{glyphs_of}
use Rattle.counting.specs.PointSets.{spanned}
use Rattle.parts.specs.declared.store.GlyphStore.{GlyphStore}

-- the peaks of all glyphs
unfoldable pub store_peaks : GlyphStore → List (List ℤ)
store_peaks s = peaks_seen (glyphs_of s.parts.set.now)

-- the variations of the glyph
unfoldable pub store_variations : GlyphStore → List Variation
store_variations s = spanned (glyphs_of s.parts.set.now) s.span
