use Rattle.std.proofs.Common.{◌+◌, ◌∷◌, drop, sym, ap, ◌∙◌, arith, w16, SFits, rules}
use Rattle.std.proofs.lemmas.Int.{to_z-of_z}
use Rattle.variations.specs.Deltas.{column}
use Rattle.variations.proofs.Columns.{column_found, column_none}
use Rattle.variations.proofs.deltas.PackedDeltasPacked.step.Goals as goal

pub returns-in_err-at : goal.returns-in_err-at
returns-in_err-at c =
    let s = c.args.self.now in
    rw c.from_residual.ensures (column_none s.coordinate s.all s.deltas.now c.args.place c.in_err-at.ensures)

pub returns : goal.returns
returns c =
    let s = c.args.self.now in
    let f : SFits w16 c.coordinate.result = search rules in
    let e = c.in_ok-at.ensures in
    let h = column_found s.coordinate s.all s.deltas.now c.args.place c.in_ok-at.at e in
    (omega (arith, e.0), omega (arith, e.1), h ∙ ap (λ v. v ∷ column s.coordinate s.all (drop (c.in_ok-at.at + 1) s.deltas.now)) (sym (to_z-of_z w16 _ f ∙ c.coordinate.ensures)))
