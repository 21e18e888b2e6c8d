use Rattle.std.proofs.Common.{length, subst}
use Rattle.format.specs.Account.{Account}
use Rattle.sets.specs.OfSet.{account_of}
use Rattle.gvar.specs.Runs.{RunNoted}
use Rattle.gvar.proofs.Replays.{replayed}
use Rattle.gvar.proofs.replay.replay.Goals as goal

pub returns : goal.returns
returns g c =
    let s = g.S.Sink in
    replayed s.step (length c.args.cells.now) c.args.axes.count _ c.args.requests.now c.make_all.new.replies
    (s.stands c.args.sink.now) (account_of c.make_all.new.set) (s.stands c.make_all.new.sink)
    (subst
    (λ (k : Account). RunNoted s.step (length c.args.cells.now) c.args.requests.now c.make_all.new.replies k (s.stands c.args.sink.now) (account_of c.make_all.new.set) (s.stands c.make_all.new.sink))
    c.open-set.ensures.account
    c.make_all.ensures)
