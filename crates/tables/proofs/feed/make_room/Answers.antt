use Rattle.std.proofs.Common.{Err}
use Rattle.std.proofs.lemmas.Result.{err_from_is_err_and}
use Rattle.write.proofs.Feeding.{fed_whole}
use Rattle.tables.proofs.feed.make_room.Goals as goal

pub returns-in_err-take : goal.returns-in_err-take
returns-in_err-take g c =
    let q = err_from_is_err_and c.from_residual.result c.from_residual.ensures.1 in
    let is = c.taken.ensures in
    rw (q.1, q.2) (fed_whole (Err _) (rw is at c.in_err-take.ensures))
