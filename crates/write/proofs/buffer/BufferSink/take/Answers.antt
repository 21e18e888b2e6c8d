use Rattle.std.proofs.Common.{take, sym, refl, ◌∙◌, arith, drop-drop, rules}
use Rattle.std.proofs.lemmas.Slice.{overwrites}
use Rattle.write.proofs.Folds.{folded_kept}
use Rattle.write.proofs.Laws.{handed_all}
use Rattle.write.proofs.buffer.BufferSink.take.Goals as goal

pub returns : goal.returns
returns c =
    handed_all
    (omega arith)
    (search (rules, overwrites))
    (search (rules, overwrites) ∙ sym (folded_kept c.args.bytes.now (take c.args.self.now.used c.args.self.now.bytes.now)))
    (search (rules, overwrites, drop-drop))
    refl
