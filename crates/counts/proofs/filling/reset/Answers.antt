use Rattle.std.proofs.Common.{◌≡◌, ◌<◌, ◌≢◌, length, get_or, refl, ap, ◌∙◌, arith, below_more, length-take-le}
use Rattle.counts.specs.declared.cells.CountCell.{CountCell}
use Rattle.links.specs.Links.{linked, no_link}
use Rattle.counts.specs.Cells.{blank}
use Rattle.counts.proofs.Fronts.{joined_front, ranks_joined}
use Rattle.counts.proofs.Steps.{field_same, field_other, leaves_more, leaves_set}
use Rattle.counts.proofs.filling.reset.Goals as goal

pub loop-cell-preserved : goal.loop-cell-preserved
loop-cell-preserved c =
    let inv = c.loop-cell.invariant in
    let old = c.loop-cell.cell-items in
    let i = c.loop-cell.cell-index in
    let empty : CountCell = record (get_or old i blank) { head = no_link } in
    let within : i < length old = omega arith in
    let inside : i < c.args.n = omega (arith, length-take-le c.args.n c.args.cells.now c.requires) in (
      below_more _ _ (λ k l. let ne : k ≢ i = omega arith in field_other (λ x. linked x.head) old i empty k ne ∙ inv.0 k l) (field_same (λ x. linked x.head) old i empty within),
      leaves_more _ _ _ _ inv.1 (leaves_set c.args.n i old empty inside within refl refl),
    )

pub returns : goal.returns
returns c =
    let inv = c.loop-cell.invariant in
    let n = c.args.n in
    let cells = c.args.cells.now in
    let ys = c.loop-cell.cell-items in
    let each : length ys ≡ n = omega (arith, length-take-le n cells c.requires) in
    record {
      empty = λ k l. ap (λ (x : CountCell). linked x.head) (joined_front n cells ys c.requires each k l) ∙ inv.0 k (omega (arith, length-take-le n cells c.requires));
      rest = ranks_joined n cells ys c.requires each inv.1;
    }
