use Rattle.std.proofs.Common.{◌<◌, ◌^◌, sum_by, ◌∙◌, arith, rules, tests}
use Rattle.std.proofs.lemmas.Iterator.{YieldsList-from_slice, YieldsList-from_map}
use Rattle.std.proofs.lemmas.Iterator.Consumers.{sum_by_from_yields_List, fits_by_from_yields_list}
use Rattle.variations.proofs.GapBytes.{one_if_required, count_is, count_most}
use Rattle.variations.proofs.points.required_count.Goals as goal

pub sum-requires-clause-fits : goal.sum-requires-clause-fits
sum-requires-clause-fits c =
    let ds = c.args.deltas.now in
    let fits : sum_by one_if_required ds < 2 ^ 64 = omega (arith, count_is ds, count_most 0 ds) in
    fits_by_from_yields_list one_if_required ds c.map.result _ (YieldsList-from_map _ one_if_required (YieldsList-from_slice ds cc) c.map.ensures.closure (λ x r q k. search (rules, tests))) fits

pub returns : goal.returns
returns c =
    let ds = c.args.deltas.now in
    sum_by_from_yields_List one_if_required ds c.map.result c.sum.result c.sum.ensures.ran
    (YieldsList-from_map _ one_if_required (YieldsList-from_slice ds cc) c.map.ensures.closure (λ x r q k. search (rules, tests)))
    ∙ count_is ds
