use Rattle.std.proofs.Common.{◌+◌, ◌∷◌, ap, ◌∙◌, arith}
use Rattle.variations.specs.Gaps.{gaps_from}
use Rattle.variations.proofs.GapCuts.{gap_found, gap_none}
use Rattle.variations.proofs.gaps.RequiredPointsPacked.step.Goals as goal

pub returns-in_err-point : goal.returns-in_err-point
returns-in_err-point c = rw c.from_residual.ensures (gap_none c.args.self.now.deltas.now c.args.place c.in_err-point.ensures)

pub returns : goal.returns
returns c =
    let ds = c.args.self.now.deltas.now in
    let e = c.in_ok-point.ensures in
    (omega (arith, e.0), omega (arith, e.1), gap_found ds c.args.place c.in_ok-point.point e ∙ ap (λ n. n ∷ gaps_from ds (c.in_ok-point.point + 1)) (omega (arith, e.0)))
