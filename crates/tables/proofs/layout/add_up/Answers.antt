use Rattle.std.proofs.Common.{refl}
use Rattle.tables.proofs.Sizes.{summed_more}
use Rattle.tables.proofs.layout.add_up.Goals as goal

pub loop-n-preserved : goal.loop-n-preserved
loop-n-preserved g c =
    let gs = g.P.TableParts.glyphs c.args.parts.now in
    summed_more gs c.loop-n.n c.glyph_size-size.result c.loop-n.sums _ c.loop-n.invariant c.glyph_size-size.ensures.is c.glyph_size-size.ensures.small refl refl
