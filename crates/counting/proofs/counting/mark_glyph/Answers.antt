use Rattle.sets.specs.OfSet.{glyphs_of}
use Rattle.sets.specs.Views.{Lies}
use Rattle.std.proofs.lemmas.Option.{MatchOption-at_some}
use Rattle.counting.proofs.Marks.{marked_more}
use Rattle.counting.proofs.counting.mark_glyph.Goals as goal

pub returns-clause-done : goal.returns-clause-done
returns-clause-done c =
    let gs = glyphs_of c.args.set.now in
    let p = c.unwrap-span.result in
    let lies : Lies gs c.args.at p = MatchOption-at_some _ (Lies gs c.args.at) p c.unwrap-span.ensures c.span_at.ensures in
    marked_more gs c.args.at p lies c.args.cells.now c.mark_span.new.cells c.mark_span.ensures.marks c.mark_span.ensures.before c.requires.done
