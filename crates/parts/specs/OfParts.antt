-- The set that the parts of a table are taken from.
use Rattle.std.specs.Prelude.{ℕ, List}
use Rattle.format.specs.Account.{Glyph}
use Rattle.sets.specs.OfSet.{account_of, glyphs_of}
use Rattle.parts.specs.declared.set_parts.SetParts.{SetParts}

-- its number of axes
unfoldable pub parts_axes : SetParts → ℕ
parts_axes p = (account_of p.set.now).axes

-- its glyphs
unfoldable pub parts_glyphs : SetParts → List Glyph
parts_glyphs p = glyphs_of p.set.now
