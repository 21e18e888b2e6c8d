use Rattle.std.proofs.Common.{◌≡◌, ◌*◌, take, Err, sym, refl, ap, ◌∙◌, subst, arith}
use Rattle.std.proofs.lemmas.List.{nil_from_length}
use Rattle.std.specs.Slice.Iter.{chunks_rest, chunks_size}
use Rattle.format.specs.Bytes.{signed_words}
use Rattle.write.specs.Sinks.{Part}
use Rattle.write.proofs.Feeding.{fed_refused, fed_whole, part_none, part_more, part_stop, part_done}
use Rattle.tuples.proofs.Words.{words_append, packed_whole}
use Rattle.tuples.proofs.tuple.TupleFontWrite.feed.Goals as goal

pub loop-part-init : goal.loop-part-init
loop-part-init g c =
    let chunks = c.chunks-part-items.ensures in
    let same = c.into_iter-part-iterator.ensures.into_iter_gives in
    let s = g.S.Sink in
    let zs = c.args.self.now.values.now in (
      refl,
      ap chunks_size same ∙ chunks.size,
      subst (λ l. Part s.step (signed_words zs) (signed_words l) (s.stands c.args.sink.now) (s.stands c.args.sink.now)) (sym (ap chunks_rest same ∙ chunks.rest)) part_none,
    )

pub loop-part-preserved : goal.loop-part-preserved
loop-part-preserved g c =
    let part = c.in-Some.part.now in
    let rest = chunks_rest c.next.new.self in
    let steps = c.in-Some.ensures.steps in
    let n = c.pack-n.result in
    let is : take (2 * n) c.pack-n.new.bytes ≡ signed_words part =
    c.pack-n.ensures.words ∙ ap signed_words (packed_whole part n _ c.pack-n.ensures.many c.loop-part.invariant.1 (omega (arith, steps.1.1))) in (
      c.pack-n.array_long,
      steps.0 ∙ c.loop-part.invariant.1,
      part_more (signed_words part) (signed_words rest) (ap signed_words steps.1.0 ∙ words_append part rest) c.loop-part.invariant.2 (rw is at c.in_ok-take.ensures),
    )

pub returns-in_err-take : goal.returns-in_err-take
returns-in_err-take g c =
    let part = c.in-Some.part.now in
    let rest = chunks_rest c.next.new.self in
    let steps = c.in-Some.ensures.steps in
    let n = c.pack-n.result in
    let is : take (2 * n) c.pack-n.new.bytes ≡ signed_words part =
    c.pack-n.ensures.words ∙ ap signed_words (packed_whole part n _ c.pack-n.ensures.many c.loop-part.invariant.1 (omega (arith, steps.1.1))) in
    fed_refused c.from_residual.result c.from_residual.ensures.1
    (part_stop (signed_words part) (signed_words rest) (ap signed_words steps.1.0 ∙ words_append part rest) c.loop-part.invariant.2 _ (fed_whole (Err _) (rw is at c.in_err-take.ensures)))

pub returns : goal.returns
returns g c = part_done (ap signed_words (nil_from_length _ c.in-None.ensures.steps.1.0)) c.loop-part.invariant.2
