use Rattle.std.proofs.Common.{sym, ◌∙◌}
use lib.ListN.{length-map}
use Rattle.variations.specs.Deltas.{delta_of, deltas_of}
use Rattle.tuples.proofs.Choosing.{stores_none, stores_every, stored_every, stored_less}
use Rattle.tuples.proofs.choice.stored_points.Goals.{then-required-eq0-via-then-required-eq0, then-required-eq0-via-else-required-eq0+then-required-deltas}
use Rattle.tuples.proofs.choice.stored_points.Goals as goal

pub returns-then-required-eq0 : goal.returns-then-required-eq0
returns-then-required-eq0 c =
    let ds = deltas_of c.args.deltas.now in
    let n = sym c.required_count-required.ensures in
    let l = sym (length-map c.args.deltas.now delta_of) in
    stored_every ds _
    (elim c.then-required-eq0.branch [
      | then-required-eq0-via-then-required-eq0 w ↦ stores_none ds (n ∙ w.if-required-eq0.true)
      | then-required-eq0-via-else-required-eq0+then-required-deltas w ↦ stores_every ds (n ∙ w.if-required-deltas.true ∙ l)
    ])
    c.compute_size-whole.ensures.size

pub returns : goal.returns
returns c =
    let ds = deltas_of c.args.deltas.now in
    let n = c.required_count-required.ensures in
    let l = length-map c.args.deltas.now delta_of in
    let w = c.compute_size-whole.ensures.size in
    let p = c.compute_size-points.ensures.size in
    let v = c.compute_size-values.ensures.size in
    stored_less ds _ _ _ _ _ n l c.if-required-eq0.false c.if-required-deltas.false w p v c.if-whole-points.false
