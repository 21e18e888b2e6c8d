use Rattle.std.proofs.Common.{◌≡◌, false, List, get_or, Result, OnOk, sym, ◌∙◌, subst, rules}
use Rattle.format.specs.Glyphs.{point_sets, same_set}
use Rattle.counts.specs.declared.cells.CountCell.{CountCell}
use Rattle.counts.specs.Cells.{marked_at}
use Rattle.counts.specs.Tables.{Filled}
use Rattle.counts.specs.declared.too_few.TooFewCells.{TooFewCells}
use Rattle.sets.specs.OfSet.{glyphs_of}
use Rattle.counting.specs.Counted.{marks}
use Rattle.counting.specs.PointSets.{spanned}
use Rattle.counting.proofs.SharedSets.{marks_are}
use Rattle.counting.proofs.Views.{spanned_long}
use Rattle.counting.proofs.counting.mark_part.Goals as goal

pub returns-clause-marks : goal.returns-clause-marks
returns-clause-marks c =
    let p = c.args.points.now in
    let vs = spanned (glyphs_of p.set.now) p.span in
    let filling = c.fill.new.self.cells.now in
    let filled : Filled (same_set (point_sets vs)) p.span.count filling = subst (λ (r : Result (Unit {0}) TooFewCells). OnOk r (Filled (same_set (point_sets vs)) p.span.count filling)) c.unwrap.ensures c.fill.ensures.filled in
    λ i l. subst (λ (x : List CountCell). marked_at x i ≡ get_or (marks vs) i false) (search rules)
    (c.mark_best.ensures.marks filled i l ∙ marks_are vs p.span.count i (sym (spanned_long (glyphs_of p.set.now) p.span i l p.within)) l)
