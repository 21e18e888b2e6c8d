use Rattle.std.proofs.Common.{◌≡◌, ◌+◌, ◌*◌, get_or, sym, ap, ◌∙◌, arith, w16, to_z}
use Rattle.format.specs.Bytes.{pair}
use Rattle.streams.proofs.Signs.{word_value}
use Rattle.reader.proofs.TupleSteps.{length_words, word_here}
use Rattle.reader.proofs.tuple.Tuple.get.Goals as goal

pub returns-then-i-self : goal.returns-then-i-self
returns-then-i-self c = omega (arith, length_words c.args.self.now.part.now)

pub returns-in_err-word : goal.returns-in_err-word
returns-in_err-word c = absurd (omega (arith, c.in_err-word.ensures.ends))

pub returns : goal.returns
returns c =
    let bs = c.args.self.now.part.now in
    let i = c.args.i in
    let a = get_or bs (2 * i) 0 in
    let b = get_or bs (2 * i + 1) 0 in
    let m : pair a b ≡ a * 256 + b = omega arith in (
      omega (arith, length_words bs),
      word_value a b c.cast_signed.result c.cast_signed.type_inv (c.cast_signed.ensures ∙ ap (to_z w16) (c.in_ok-word.ensures.word ∙ m)) ∙ sym (word_here bs i (omega arith)),
    )
