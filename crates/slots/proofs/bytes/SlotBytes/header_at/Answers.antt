use Rattle.std.proofs.Common.{refl, arith}
use Rattle.slots.proofs.HeadSteps.{next_word, no_four, no_tuples, head_read}
use Rattle.slots.proofs.bytes.SlotBytes.header_at.Goals as goal

pub returns-in_err-size : goal.returns-in_err-size
returns-in_err-size c = rw c.from_residual.ensures (no_four c.args.self.now.axes c.args.self.now.table.now c.args.at (omega (arith, c.in_err-size.ensures.ends)))

pub returns-in_err-index : goal.returns-in_err-index
returns-in_err-index c = rw c.from_residual-in_err-index.ensures (no_four c.args.self.now.axes c.args.self.now.table.now c.args.at (omega (arith, c.in_err-index.ensures.ends)))

pub returns-then-self-at : goal.returns-then-self-at
returns-then-self-at c =
    let bs = c.args.self.now.table.now in
    let w = c.in_ok-index.ensures in
    no_tuples c.args.self.now.axes bs c.args.at _ c.tuple_words.result (omega (arith, w.inside)) (next_word bs c.args.at _ w.word) c.tuple_words.ensures (omega (arith, w.inside, c.if-self-at.true))

pub returns : goal.returns
returns c =
    let bs = c.args.self.now.table.now in
    let w = c.in_ok-index.ensures in
    head_read c.args.self.now.axes bs c.args.at _ _ c.tuple_words.result _ (omega (arith, w.inside)) c.in_ok-size.ensures.word (next_word bs c.args.at _ w.word) c.tuple_words.ensures (omega (arith, w.inside, c.if-self-at.false)) refl
