use Rattle.std.proofs.Common.{arith}
use Rattle.sets.specs.OfSet.{glyphs_of}
use Rattle.counting.proofs.Marks.{marked_all}
use Rattle.counting.proofs.counting.mark_glyphs.Goals as goal

pub returns-clause-marks : goal.returns-clause-marks
returns-clause-marks c =
    let e = c.glyph_count-at-end.ensures.is in
    marked_all (glyphs_of c.args.set.now) c.loop-at.at c.loop-at.cells (omega (arith, e)) c.loop-at.invariant.0
