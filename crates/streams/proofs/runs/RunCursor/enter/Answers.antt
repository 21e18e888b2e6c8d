use Rattle.std.proofs.Common.{sym, ap, ◌∙◌, arith}
use Rattle.streams.proofs.RunSteps.{refuses_control, refuses_kind, refuses_length, enters}
use Rattle.streams.proofs.runs.RunCursor.enter.Goals as goal

pub returns-in_default : goal.returns-in_default
returns-in_default g c = rw c.blame.ensures (refuses_control g.P.Packing.form c.args.self.now c.requires (omega arith) c.in_default.ensures.lookup.3)

pub returns-in_default-begin : goal.returns-in_default-begin
returns-in_default-begin g c =
    let f = g.P.Packing.form in
    let l = c.in-Some.ensures.lookup.3 in
    rw c.blame-in_default-begin.ensures (refuses_kind f c.args.self.now c.requires (omega arith) l.0 (ap f.begins (sym (l.1 0)) ∙ sym c.in_default-begin.ensures))

pub returns-then-self-n : goal.returns-then-self-n
returns-then-self-n g c =
    let f = g.P.Packing.form in
    let l = c.in-Some.ensures.lookup.3 in
    rw c.blame-then-self-n.ensures
    (refuses_length f c.args.self.now _ c.requires (omega arith) l.0 (ap f.begins (sym (l.1 0)) ∙ sym c.in-Some-begin.ensures) c.if-self-n.true)

pub returns : goal.returns
returns g c =
    let f = g.P.Packing.form in
    let l = c.in-Some.ensures.lookup.3 in
    enters f c.args.self.now _ c.give.result c.give.new.self c.requires (omega arith) l.0
    (ap f.begins (sym (l.1 0)) ∙ sym c.in-Some-begin.ensures) c.if-self-n.false c.give.ensures
