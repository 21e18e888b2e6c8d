use Rattle.std.proofs.Common.{get_or, ap, ◌∙◌}
use Rattle.format.specs.Packed.{Points, every}
use Rattle.format.specs.Glyphs.{same_points}
use Rattle.variations.specs.Deltas.{deltas_of}
use Rattle.tuples.specs.Choice.{kept_points}
use Rattle.sets.specs.OfSet.{glyphs_of}
use Rattle.counting.specs.PointSets.{sets_of}
use Rattle.counting.proofs.Views.{points_shown}
use Rattle.counting.proofs.point_sets.PointSetsItems.same.Goals as goal

pub returns : goal.returns
returns c =
    let s = c.args.self.now in
    let gs = glyphs_of s.set.now in
    let b = c.view-2.result in
    c.same_stored.ensures
    ∙ ap (λ (p : Points). same_points p (kept_points b.stored.all (deltas_of b.deltas.now))) (points_shown gs s.span c.args.i c.requires.left s.within _ c.view.result c.view.ensures)
    ∙ ap (λ (p : Points). same_points (get_or (sets_of gs s.span) c.args.i every) p) (points_shown gs s.span c.args.j c.requires.right s.within _ b c.view-2.ensures)
