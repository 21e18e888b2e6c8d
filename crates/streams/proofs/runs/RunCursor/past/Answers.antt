use Rattle.std.proofs.Common.{[], ◌∷◌, ◌++◌, sym, ap, ◌∙◌}
use Rattle.streams.specs.Ahead.{give_all}
use Rattle.streams.specs.Runs.{ahead}
use Rattle.streams.proofs.Steps.{gave, give_more}
use Rattle.streams.proofs.runs.RunCursor.past.Goals as goal

pub loop-preserved : goal.loop-preserved
loop-preserved g c =
    let f = g.P.Packing.form in
    let s = c.in_ok-next.ensures in
    let vs = c.loop.invariant.0 in
    let w = gave (ahead f c.loop.self) (ahead f c.next.new.self) c.in_ok-next.field-0 (sym c.is_some.ensures ∙ c.if-is_some.true) s.answer s.left in
    (vs ++ (w.0 ∷ []), c.loop.invariant.1 ∙ ap (give_all vs) w.1 ∙ give_more vs w.0 (ahead f c.next.new.self))
