use Rattle.std.proofs.Common.{refl, arith}
use Rattle.sets.specs.OfSet.{glyphs_of}
use Rattle.parts.specs.OfParts.{parts_glyphs}
use Rattle.parts.specs.OfStore.{store_peaks, store_variations}
use Rattle.parts.proofs.Spans.{peaks_long, of_glyph}
use Rattle.parts.proofs.set_parts.SetParts.store_of.Goals as goal

pub invariant_of-result : goal.invariant_of-result
invariant_of-result c =
    let p = c.args.self.now in
    let gs = glyphs_of p.set.now in
    let h = of_glyph gs p.cells.now c.args.n p.counted.marks_are c.span.result c.span.ensures c.unwrap_or-span.result c.unwrap_or-span.ensures in
    record { few = h.few; within = h.within; short = omega (arith, h.within, peaks_long gs, p.counted.long); marked = h.marked }

pub returns-clause-peaks : goal.returns-clause-peaks
unfolding store_peaks parts_glyphs
returns-clause-peaks c = refl

pub returns-clause-variations : goal.returns-clause-variations
unfolding store_variations parts_glyphs
returns-clause-variations c =
    let p = c.args.self.now in
    (of_glyph (glyphs_of p.set.now) p.cells.now c.args.n p.counted.marks_are c.span.result c.span.ensures c.unwrap_or-span.result c.unwrap_or-span.ensures).variations
