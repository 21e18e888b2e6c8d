use Rattle.std.proofs.Common.{◌+◌, arith}
use Rattle.write.proofs.Feeding.{fed_refused, part_more, part_stop, part_done}
use Rattle.stores.specs.Parts.{variation_at, data_in}
use Rattle.stores.proofs.Joining.{left_at, left_more, left_none}
use Rattle.stores.proofs.feed.feed_all_data.Goals as goal

pub returns-in_err-feed_data : goal.returns-in_err-feed_data
returns-in_err-feed_data g c =
    let t = g.T.TupleVariations in
    let vs = t.variations c.args.store.now in
    let j = c.loop-j.j in
    fed_refused c.from_residual.result c.from_residual.ensures.1 (part_stop (data_in vs (variation_at vs j)) (left_at (data_in vs) vs (j + 1)) (left_more (data_in vs) vs j (omega arith)) c.loop-j.invariant _ c.in_err-feed_data.ensures)

pub loop-j-preserved : goal.loop-j-preserved
loop-j-preserved g c =
    let t = g.T.TupleVariations in
    let vs = t.variations c.args.store.now in
    let j = c.loop-j.j in
    part_more (data_in vs (variation_at vs j)) (left_at (data_in vs) vs (j + 1)) (left_more (data_in vs) vs j (omega arith)) c.loop-j.invariant c.in_ok-feed_data.ensures.outcome

pub returns : goal.returns
returns g c =
    let t = g.T.TupleVariations in
    let vs = t.variations c.args.store.now in
    part_done (left_none (data_in vs) vs c.loop-j.j (omega arith)) c.loop-j.invariant
