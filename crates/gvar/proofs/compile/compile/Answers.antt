use Rattle.std.proofs.Common.{◌≡◌, ◌≤◌, true, false, length, replicate, Some, None, Err, sym, refl, ◌∙◌, arith, rules}
use mathlib.Core.Option.{none}
use Rattle.std.proofs.lemmas.Option.{MatchOption-at_some, MatchOption-at_none}
use Rattle.std.proofs.lemmas.Result.{err_from_is_err_and}
use Rattle.format.specs.Table.{numbers_full, variation_count}
use Rattle.format.specs.Answers.{by_set, missing_numbers, few_count_cells}
use Rattle.sets.specs.declared.refusal.Refusal.TheVariants.{TooFewCountCells}
use Rattle.sets.specs.OfSet.{stores, account_of, glyphs_of, sound_of}
use Rattle.sets.proofs.Shortness.{short_set}
use Rattle.parts.specs.OfParts.{parts_axes, parts_glyphs}
use Rattle.gvar.proofs.Answering.{compiled_refused, compiled_written, peaks_counted, cells_cleared, sink_left}
use Rattle.gvar.proofs.compile.compile.Goals as goal

pub returns-then-not-numbers_full-clause-compiled : goal.returns-then-not-numbers_full-clause-compiled
returns-then-not-numbers_full-clause-compiled g c =
    let s = c.args.set.now in
    let a = g.S.Sink.stands c.args.sink.now in
    let gap : numbers_full (glyphs_of s) ≡ false = sym c.numbers_full.ensures ∙ c.if-not-numbers_full.true in
    compiled_refused (account_of s) (length c.args.cells.now) g.S.Sink.step a s.axes.few (short_set (stores s) (sound_of s)) a (by_set 10 none none) refl (missing_numbers gap)

pub returns-in_err-peaks-clause-compiled : goal.returns-in_err-peaks-clause-compiled
returns-in_err-peaks-clause-compiled g c =
    let s = c.args.set.now in
    let a = g.S.Sink.stands c.args.sink.now in
    let full : numbers_full (glyphs_of s) ≡ true = sym c.numbers_full.ensures ∙ c.if-not-numbers_full.false in
    let p = err_from_is_err_and c.from_residual.result c.from_residual.ensures.1 in
    let o : c.count_all.result ≡ None = grind arith in
    let e : c.from_residual.result ≡ Err TooFewCountCells = grind arith in
    let n = MatchOption-at_none _ _ o c.count_all.ensures.counted in
    rw e (compiled_refused (account_of s) (length c.args.cells.now) g.S.Sink.step a s.axes.few (short_set (stores s) (sound_of s)) a (by_set 11 none none) refl (few_count_cells full n.0))

pub returns-clause-compiled : goal.returns-clause-compiled
unfolding parts_axes parts_glyphs
returns-clause-compiled g c =
    let s = c.args.set.now in
    let gs = glyphs_of s in
    let full : numbers_full gs ≡ true = sym c.numbers_full.ensures ∙ c.if-not-numbers_full.false in
    let o : c.count_all.result ≡ Some c.in_ok-peaks.peaks = grind arith in
    let n = MatchOption-at_some _ _ c.in_ok-peaks.peaks o c.count_all.ensures.counted in
    let enough : variation_count gs ≤ length c.args.cells.now = omega (arith, n.1.long, c.count_all.ensures.long, peaks_counted gs) in
    compiled_written (account_of s) (length c.args.cells.now) g.S.Sink.step (g.S.Sink.stands c.args.sink.now) s.axes.few (short_set (stores s) (sound_of s)) _ c.write_counted-answer.result (full, enough) c.write_counted-answer.ensures

pub returns-clause-sink : goal.returns-clause-sink
unfolding parts_axes parts_glyphs
returns-clause-sink g c = sink_left g.S.Sink.step _ (glyphs_of c.args.set.now) (g.S.Sink.stands c.args.sink.now) _ c.write_counted-answer.result c.write_counted-answer.ensures

pub returns-clause-cells : goal.returns-clause-cells
returns-clause-cells g c =
    let gs = glyphs_of c.args.set.now in
    let cs = c.args.cells.now in
    let full : numbers_full gs ≡ true = sym c.numbers_full.ensures ∙ c.if-not-numbers_full.false in
    let o : c.count_all.result ≡ Some c.in_ok-peaks.peaks = grind arith in
    let n = MatchOption-at_some _ _ c.in_ok-peaks.peaks o c.count_all.ensures.counted in
    let enough : variation_count gs ≤ length cs = omega (arith, n.1.long, c.count_all.ensures.long, peaks_counted gs) in
    c.fill.ensures.after (λ y k. search rules) ∙ (λ i. replicate (c.count_all.ensures.long i) (c.zeros.ensures i)) ∙ sym (cells_cleared gs cs full enough)
