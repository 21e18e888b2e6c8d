use Rattle.std.proofs.Common.{[], ◌∷◌, length, get_or, fold, sym, refl, ap, ◌∙◌, arith}
use lib.Seq.{drop-nil}
use Rattle.std.proofs.lemmas.List.{take_all}
use Rattle.std.proofs.lemmas.List.Sums.{fold_more}
use Rattle.letter.specs.Parity.{mixed}
use Rattle.write.proofs.Laws.{handed_all}
use Rattle.letter.proofs.parity.ParitySink.take.Goals as goal

pub loop-b-preserved : goal.loop-b-preserved
loop-b-preserved c =
    let bs = c.args.bytes.now in
    let i = c.loop-b.b-index in (
      c.loop-b.invariant.0,
      ap (λ t. mixed t (get_or bs i 0)) c.loop-b.invariant.1
          ∙ sym (fold_more mixed (c.args.self.now.bits ∷ []) bs i 0 c.loop-b-test.true),
    )

pub returns : goal.returns
returns c =
    let bs = c.args.bytes.now in
    let e = c.in_ok-spend.ensures.spent in
    handed_all
    (omega (arith, e))
    (omega (arith, e, c.loop-b.invariant.0))
    (c.loop-b.invariant.1 ∙ ap (fold mixed _) (take_all c.loop-b.b-index bs c.loop-b-test.false))
    (sym (drop-nil (length bs)))
    refl
