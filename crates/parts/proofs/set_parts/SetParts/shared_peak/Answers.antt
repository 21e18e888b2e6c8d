use Rattle.std.proofs.Common.{◌≡◌, ap, ◌∙◌}
use Rattle.std.proofs.lemmas.List.{get_or_default}
use Rattle.counts.specs.declared.cells.CountCell.{CountCell}
use Rattle.counts.specs.Cells.{blank, order_at}
use Rattle.parts.proofs.Sets.{cell_inside, first_some, first_shown}
use Rattle.parts.proofs.set_parts.SetParts.shared_peak.Goals as goal

pub bounds-self-r : goal.bounds-self-r
bounds-self-r c = cell_inside c.args.self.now c.args.r c.requires

pub unwrap-first-requires : goal.unwrap-first-requires
unwrap-first-requires c =
    let p = c.args.self.now in
    let e : c.order.result ≡ order_at p.cells.now c.args.r =
    c.order.ensures ∙ ap (λ (x : CountCell). x.order) (get_or_default p.cells.now c.args.r _ blank (cell_inside p c.args.r c.requires)) in
    first_some p c.args.r c.requires c.order.result e c.view.result c.view.ensures

pub returns : goal.returns
returns c =
    let p = c.args.self.now in
    let e : c.order.result ≡ order_at p.cells.now c.args.r =
    c.order.ensures ∙ ap (λ (x : CountCell). x.order) (get_or_default p.cells.now c.args.r _ blank (cell_inside p c.args.r c.requires)) in
    first_shown p c.args.r c.requires c.order.result e c.view.result c.view.ensures c.unwrap-first.result c.unwrap-first.ensures
