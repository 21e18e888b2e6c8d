use Rattle.std.proofs.Common.{sym, ◌∙◌, arith}
use Rattle.sets.specs.OfSet.{stores, sound_of}
use Rattle.sets.proofs.Admit.{wrong_tents, many_deltas, unlike, many_variations, no_room, passes}
use Rattle.sets.proofs.set.Set.admit.Goals as goal

pub returns-then-tents-from-clause-answers : goal.returns-then-tents-from-clause-answers
returns-then-tents-from-clause-answers c =
    wrong_tents (stores c.args.self.now) (sound_of c.args.self.now) (omega arith) c.args.tents.now c.args.deltas.now c.last-number.result c.last-number.ensures.is
    (λ e. c.if-tents-from.true (e ∙ sym (c.from.ensures ∙ c.get.ensures.is)))

pub returns-then-deltas-gt-MAX_DELTAS-clause-answers : goal.returns-then-deltas-gt-MAX_DELTAS-clause-answers
returns-then-deltas-gt-MAX_DELTAS-clause-answers c =
    many_deltas (stores c.args.self.now) (sound_of c.args.self.now) (omega arith) c.args.tents.now c.args.deltas.now c.last-number.result c.last-number.ensures.is
    (c.if-tents-from.false ∙ c.from.ensures ∙ c.get.ensures.is) c.if-deltas-gt-MAX_DELTAS.true

pub returns-then-unlike_first-clause-answers : goal.returns-then-unlike_first-clause-answers
returns-then-unlike_first-clause-answers c =
    unlike (stores c.args.self.now) (sound_of c.args.self.now) (omega arith) c.args.tents.now c.args.deltas.now c.last-number.result c.last-number.ensures.is
    (c.if-tents-from.false ∙ c.from.ensures ∙ c.get.ensures.is) (omega arith) c.if-unlike_first.ensures

pub returns-then-variations-ge-MAX_VARIATIONS-clause-answers : goal.returns-then-variations-ge-MAX_VARIATIONS-clause-answers
returns-then-variations-ge-MAX_VARIATIONS-clause-answers c =
    many_variations (stores c.args.self.now) (sound_of c.args.self.now) (omega arith) c.args.tents.now c.args.deltas.now c.last-number.result c.last-number.ensures.is
    (c.if-tents-from.false ∙ c.from.ensures ∙ c.get.ensures.is) (omega arith) c.if-unlike_first.ensures c.if-variations-ge-MAX_VARIATIONS.true

pub returns-then-no_room-clause-answers : goal.returns-then-no_room-clause-answers
returns-then-no_room-clause-answers c =
    no_room (stores c.args.self.now) (sound_of c.args.self.now) (omega arith) c.args.tents.now c.args.deltas.now c.last-number.result c.last-number.ensures.is
    (c.if-tents-from.false ∙ c.from.ensures ∙ c.get.ensures.is) (omega arith) c.if-unlike_first.ensures (omega arith) c.if-no_room.ensures

pub returns-clause-answers : goal.returns-clause-answers
returns-clause-answers c =
    passes (stores c.args.self.now) (sound_of c.args.self.now) (omega arith) c.args.tents.now c.args.deltas.now c.last-number.result c.last-number.ensures.is
    (c.if-tents-from.false ∙ c.from.ensures ∙ c.get.ensures.is) (omega arith) c.if-unlike_first.ensures (omega arith) c.if-no_room.ensures
