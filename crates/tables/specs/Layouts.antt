-- What the layout of a table says of its glyphs.
use Rattle.std.specs.Prelude.{◌≡◌, ℕ, ◌*◌, ◌≤◌, List, map, length}
use Rattle.format.specs.Account.{Glyph}
use Rattle.format.specs.Bytes.{joined, total}
use Rattle.format.specs.Glyphs.{listed}
use Rattle.format.specs.Table.{even_total, is_short, padded, glyphs_bytes}
use Rattle.tables.specs.declared.layout.Sums.{Sums}
use Rattle.tables.specs.declared.layout.Layout.{Layout}
use Rattle.tables.specs.Forms.{halves}
use Rattle.tables.specs.Parts.{glyph_at}

-- the sums over the first n glyphs
pub record Summed (gs : List Glyph) (n : ℕ) (s : Sums) : Type 0 where
  pub evens : s.even ≡ even_total (listed 0 n (glyph_at gs))
  pub exacts : s.exact ≡ total (map length (listed 0 n (glyph_at gs)))
  pub less : s.exact ≤ s.even
  pub small : s.even ≤ 17179869184 * n

-- the layout of the table of these glyphs: its form, the size of its slots, and that they are not too large
pub record Laid (gs : List Glyph) (l : Layout) : Type 0 where
  pub form : halves l.form ≡ is_short (glyphs_bytes gs)
  pub size : l.slots ≡ length (joined (map (padded (halves l.form)) (glyphs_bytes gs)))
  pub small : even_total (glyphs_bytes gs) ≤ 67108864
