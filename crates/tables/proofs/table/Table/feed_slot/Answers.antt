use Rattle.std.proofs.Common.{◌≡◌, ◌-◌, true, false, length, sym, ap, ◌∙◌, arith}
use Rattle.format.proofs.Padded.{pad, padded_pad}
use Rattle.write.proofs.Laws.{handed_allowance}
use Rattle.write.proofs.Feeding.{fed_refused, fed_whole, fed_then, fed_stop}
use Rattle.tables.specs.Forms.{halves}
use Rattle.tables.specs.Parts.{is_padded, glyph_at}
use Rattle.tables.proofs.Pads.{with_pad, without_pad}
use Rattle.tables.proofs.table.Table.feed_slot.Goals as goal

pub returns-in_err-feed_glyph : goal.returns-in_err-feed_glyph
returns-in_err-feed_glyph g c =
    let b = glyph_at (g.P.TableParts.glyphs c.args.self.now.parts.now) c.args.n in
    let s = halves c.args.self.now.form in
    fed_refused c.from_residual.result c.from_residual.ensures.1 (rw (padded_pad s b) (fed_stop (pad s b) _ c.in_err-feed_glyph.ensures))

pub returns-then-pads : goal.returns-then-pads
returns-then-pads g c =
    let s = halves c.args.self.now.form in
    let b = glyph_at (g.P.TableParts.glyphs c.args.self.now.parts.now) c.args.n in
    let fed = c.in_ok-feed_glyph.ensures.outcome in
    let size : c.allowance-before.result - c.allowance.result ≡ length b = omega (arith, handed_allowance fed) in
    let padded-so : is_padded s (length b) ≡ true = ap (is_padded s) (sym size) ∙ sym c.if-pads.ensures in
    rw (with_pad s b padded-so) (fed_then c.take.result fed (fed_whole c.take.result c.take.ensures))

pub returns : goal.returns
returns g c =
    let s = halves c.args.self.now.form in
    let b = glyph_at (g.P.TableParts.glyphs c.args.self.now.parts.now) c.args.n in
    let fed = c.in_ok-feed_glyph.ensures in
    let size : c.allowance-before.result - c.allowance.result ≡ length b = omega (arith, handed_allowance fed.outcome) in
    let left_so : is_padded s (length b) ≡ false = ap (is_padded s) (sym size) ∙ sym c.if-pads.ensures in
    rw (without_pad s b left_so) fed
