use Rattle.std.proofs.lemmas.Result.{err_from_is_err_and}
use Rattle.write.proofs.Feeding.{fed_then, fed_stop}
use Rattle.variations.specs.Gaps.{gaps_from, gap_runs_bytes}
use Rattle.variations.proofs.GapBytes.{required_is}
use Rattle.variations.proofs.points.feed_required.Goals as goal

pub returns-in_err-put_count : goal.returns-in_err-put_count
returns-in_err-put_count g c =
    let q = err_from_is_err_and c.from_residual.result c.from_residual.ensures.1 in
    let ds = c.args.deltas.now in
    rw (q.1, q.2, required_is ds) (fed_stop (gap_runs_bytes (gaps_from ds 0)) _ (rw c.required_count.ensures at c.in_err-put_count.ensures))

pub returns : goal.returns
returns g c =
    let count = rw c.required_count.ensures at c.in_ok-put_count.ensures in
    let runs = rw (c.new.ensures.deltas, c.new.ensures.place) at c.feed.ensures in
    rw (required_is c.args.deltas.now) (fed_then c.feed.result count.outcome runs)
