use Rattle.std.proofs.Common.{◌∙◌, arith}
use Rattle.sets.specs.OfSet.{glyphs_of}
use Rattle.counting.proofs.Ranks.{seen_long}
use Rattle.counting.proofs.counting.count_all.Goals as goal

pub returns-clause-counted : goal.returns-clause-counted
returns-clause-counted c =
    let p = c.count_peaks-shared.ensures in
    let m = c.mark_glyphs.ensures in
    let l = seen_long (glyphs_of c.args.set.now) in
    let v = c.variation_count.ensures.all in (
      p.shared,
      record {
        long = omega (arith, l, v, c.mark_glyphs.auto.cells, c.count_peaks-shared.auto.cells);
        ranks = λ i h. m.rest.rank i ∙ p.ranks i h;
        orders = λ r h. m.rest.order r ∙ p.orders r h;
        marks_are = m.marks;
      },
    )
