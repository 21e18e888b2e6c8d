use Rattle.std.proofs.Common.{◌≡◌, length, take}
use Rattle.sets.specs.OfSet.{account_of}
use Rattle.gvar.specs.Runs.{RunNoted}
use Rattle.gvar.proofs.replay.make_all.Given as goal

abbrev pub invariant-loop-i : goal.invariant-loop-i
invariant-loop-i g l =
    let s = g.S.Sink in
    (length l.cells ≡ length l.initial.cells)
    × RunNoted s.step (length l.initial.cells) (take l.i l.requests) (take l.i l.replies) (account_of l.initial.set) (s.stands l.initial.sink) (account_of l.set) (s.stands l.sink)
