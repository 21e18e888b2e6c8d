use Rattle.std.proofs.Common.{◌≡◌, ◌<◌, ◌≤◌, length, List, get_or, MatchOption, Option, sym, ap, ◌∙◌, subst, arith, get_or-take}
use Rattle.sets.specs.declared.cells.GlyphCell.{GlyphCell}
use Rattle.sets.specs.declared.view.Span.{Span}
use Rattle.sets.specs.Cells.{blank_glyph}
use Rattle.sets.specs.OfSet.{stores, sound_of, glyphs_of}
use Rattle.sets.specs.Views.{Lies}
use Rattle.sets.proofs.Full.{glyphs_long}
use Rattle.sets.proofs.Lying.{lies}
use Rattle.sets.proofs.set.Set.span_at.Goals as goal

pub returns-in_err-cell : goal.returns-in_err-cell
returns-in_err-cell c =
    let s = c.args.self.now in
    let l = glyphs_long (stores s) (sound_of s) in
    let past : length (glyphs_of s) ≤ c.args.at = omega (arith, c.in_err-cell.ensures.lookup.3, c.glyph_cells.ensures.len) in
    subst (λ (o : Option Span). MatchOption o (length (glyphs_of s) ≤ c.args.at) (λ p. Lies (glyphs_of s) c.args.at p)) (sym c.from_residual.ensures) past

pub returns : goal.returns
returns c =
    let s = c.args.self.now in
    let cs = s.glyphs.now in
    let at = c.args.at in
    let l : at < s.begun = omega (arith, c.in_ok-cell.ensures.lookup.3.0, c.glyph_cells.ensures.len) in
    let e : c.in_ok-cell.cell.now ≡ get_or cs at blank_glyph =
    c.in_ok-cell.ensures.lookup.3.1 blank_glyph ∙ ap (λ (xs : List GlyphCell). get_or xs at blank_glyph) c.glyph_cells.ensures.are ∙ get_or-take s.begun cs at blank_glyph l in
    subst (λ (p : Span). Lies (glyphs_of s) at p) (sym (c.span.ensures ∙ ap (λ (x : GlyphCell). record { first = x.first; count = x.variations }) e)) (lies (stores s) (sound_of s) at l)
