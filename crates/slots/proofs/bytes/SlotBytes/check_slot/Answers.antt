use Rattle.std.proofs.Common.{arith}
use Rattle.slots.proofs.HeadSteps.{next_word}
use Rattle.slots.proofs.SlotSteps.{empty_slot, slot_one, slot_two, slot_store, recheck}
use Rattle.slots.proofs.bytes.SlotBytes.check_slot.Goals as goal

pub returns-then-at-self : goal.returns-then-at-self
returns-then-at-self c = empty_slot c.args.self.now.table.now c.args.at c.args.self.now.axes c.args.self.now.peaks c.args.self.now.p (omega arith)

pub returns-in_default : goal.returns-in_default
returns-in_default c k g ea ek = slot_one k g c.args.self.now.p c.args.self.now.table.now c.args.at (omega (arith, c.in_default.ensures.ends))

pub returns-in_default-word_at : goal.returns-in_default-word_at
returns-in_default-word_at c k g ea ek =
    slot_two k g c.args.self.now.p c.args.self.now.table.now c.args.at (omega (arith, c.in-Some.ensures.inside)) (omega (arith, c.in_default-word_at.ensures.ends))

pub returns : goal.returns
returns c =
    let bs = c.args.self.now.table.now in
    let at = c.args.at in
    recheck bs c.args.self.now.axes c.args.self.now.peaks c.args.self.now.p _ _ c.check_store.result
    (λ k g. slot_store k g c.args.self.now.p bs at _ _ (omega (arith, c.in-Some-word_at.ensures.inside)) c.in-Some.ensures.word (next_word bs at _ c.in-Some-word_at.ensures.word)) c.check_store.ensures
