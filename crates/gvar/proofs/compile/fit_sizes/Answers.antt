use Rattle.std.proofs.Common.{◌<◌, length, arith, below_more, rules, tests}
use Rattle.std.proofs.lemmas.Result.{err_from_is_err_and}
use Rattle.format.specs.Answers.{SizesFit}
use Rattle.format.proofs.Mapped.{ok_told, err_told}
use Rattle.stores.specs.Sizes.{StoreSized}
use Rattle.parts.specs.OfParts.{parts_glyphs}
use Rattle.parts.specs.OfStore.{store_peaks, store_variations}
use Rattle.gvar.proofs.Answering.{measured_fits, measured_refuses}
use Rattle.gvar.proofs.compile.fit_sizes.Goals as goal

pub returns-in_err-map_err : goal.returns-in_err-map_err
returns-in_err-map_err c =
    let gs = parts_glyphs c.args.parts.now in
    let s = c.store_of.result in
    let l : c.loop-n.n < length gs = omega (arith, c.loop-n-test.true, c.glyph_count-n-end.ensures.is) in
    let p = err_from_is_err_and c.from_residual.result c.from_residual.ensures.1 in
    let t = err_told (StoreSized (store_peaks s) (store_variations s)) _ c.store_size.result c.map_err.result c.map_err.ensures.cases _ c.in_err-map_err.was c.store_size.ensures in
    rw (p.1, p.2) (measured_refuses gs c.loop-n.n _ _ c.store_of.ensures.peaks c.store_of.ensures.variations t.0 _ (search (rules, tests)) l c.loop-n.invariant t.1)

pub loop-n-preserved : goal.loop-n-preserved
loop-n-preserved c =
    let gs = parts_glyphs c.args.parts.now in
    let s = c.store_of.result in
    below_more (λ m. SizesFit gs m) _ c.loop-n.invariant
    (measured_fits gs c.loop-n.n _ _ c.store_of.ensures.peaks c.store_of.ensures.variations _
    (ok_told (StoreSized (store_peaks s) (store_variations s)) _ c.store_size.result c.map_err.result c.map_err.ensures.cases _ c.in_ok-map_err.was c.store_size.ensures))
