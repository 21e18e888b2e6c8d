use Rattle.std.proofs.Common.{◌+◌, ◌<◌, ◌≤◌, length, refl, ◌∙◌, arith}
use Rattle.std.proofs.lemmas.Bool.{lt-ltb, le-ltb, or_from}
use Rattle.reader.specs.Tables.{offset_in}
use Rattle.reader.proofs.TableSteps.{before, before_next, bad_none, bad_here, bad_next, bad_done, first_true, second_true}
use Rattle.reader.proofs.table.first_bad.Goals.{then-at-last-via-then-at-last, then-at-last-via-else-at-last+then-bytes-data_at}
use Rattle.reader.proofs.table.first_bad.Goals as goal

pub loop-i-init : goal.loop-i-init
loop-i-init c = (refl, bad_none c.args.bytes.now c.args.long c.args.glyphs c.args.data_at)

pub returns-then-at-last : goal.returns-then-at-last
returns-then-at-last c =
    let bs = c.args.bytes.now in
    let long = c.args.long in
    let i = c.loop-i.i in
    elim c.then-at-last.branch [
      | then-at-last-via-then-at-last w ↦
          let l : offset_in bs long i < before bs long i = omega (arith, c.offset_at-at.ensures, c.loop-i.invariant.0, w.if-at-last.true) in
          bad_here bs long c.args.glyphs c.args.data_at c.requires i c.loop-i-test.true (first_true _ _ (lt-ltb _ _ l)) c.loop-i.invariant.1
      | then-at-last-via-else-at-last+then-bytes-data_at w ↦
          let l : length bs < c.args.data_at + offset_in bs long i = omega (arith, c.offset_at-at.ensures, w.if-bytes-data_at.true) in
          bad_here bs long c.args.glyphs c.args.data_at c.requires i c.loop-i-test.true (second_true _ _ (lt-ltb _ _ l)) c.loop-i.invariant.1
    ]

pub loop-i-preserved : goal.loop-i-preserved
loop-i-preserved c =
    let l : before c.args.bytes.now c.args.long c.loop-i.i ≤ offset_in c.args.bytes.now c.args.long c.loop-i.i = omega (arith, c.offset_at-at.ensures, c.loop-i.invariant.0, c.if-at-last.false) in
    let m : c.args.data_at + offset_in c.args.bytes.now c.args.long c.loop-i.i ≤ length c.args.bytes.now = omega (arith, c.offset_at-at.ensures) in (
      c.offset_at-at.ensures ∙ before_next c.args.bytes.now c.args.long c.loop-i.i,
      bad_next c.args.bytes.now c.args.long c.args.glyphs c.args.data_at c.requires c.loop-i.i c.loop-i-test.true (or_from _ _ (le-ltb _ _ l) (le-ltb _ _ m)) c.loop-i.invariant.1,
    )

pub returns : goal.returns
returns c = bad_done c.args.bytes.now c.args.long c.args.glyphs c.args.data_at c.loop-i.i c.loop-i-test.false c.loop-i.invariant.1
