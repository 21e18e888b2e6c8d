use Rattle.std.proofs.Common.{ℕ, ◌+◌, List, subst}
use Rattle.std.proofs.lemmas.Result.{err_from_is_err_and}
use Rattle.format.specs.Bytes.{signed_words}
use Rattle.write.specs.Sinks.{Part}
use Rattle.write.proofs.Feeding.{part_none, part_more, part_stop, part_done}
use Rattle.tables.specs.Parts.{peaks_data}
use Rattle.parts.specs.OfParts.{parts_glyphs}
use Rattle.parts.proofs.Peaks.{peaks_left, left_first}
use Rattle.parts.proofs.Sets.{peak_more, peak_last}
use Rattle.parts.proofs.set_parts.writing.SetPartsTableParts.feed_shared_peaks.Goals as goal

pub loop-r-init : goal.loop-r-init
loop-r-init g c =
    let gs = parts_glyphs c.args.self.now in
    subst (λ (bs : List ℕ). Part g.S.Sink.step (peaks_data gs) bs (g.S.Sink.stands c.args.sink.now) (g.S.Sink.stands c.args.sink.now)) (left_first gs) part_none

pub returns-in_err-feed : goal.returns-in_err-feed
returns-in_err-feed g c =
    let q = err_from_is_err_and c.from_residual.result c.from_residual.ensures.1 in
    let p = c.args.self.now in
    let ws = c.shared_peak.result.values.now in
    let r = c.loop-r.r in
    rw (q.1, q.2) (part_stop (signed_words ws) (peaks_left (parts_glyphs p) (r + 1)) (peak_more p r c.loop-r-test.true ws c.shared_peak.ensures) c.loop-r.invariant _ c.in_err-feed.ensures)

pub loop-r-preserved : goal.loop-r-preserved
loop-r-preserved g c =
    let p = c.args.self.now in
    let ws = c.shared_peak.result.values.now in
    let r = c.loop-r.r in
    part_more (signed_words ws) (peaks_left (parts_glyphs p) (r + 1)) (peak_more p r c.loop-r-test.true ws c.shared_peak.ensures) c.loop-r.invariant c.in_ok-feed.ensures.outcome

pub returns : goal.returns
returns g c = part_done (peak_last c.args.self.now c.loop-r.r c.loop-r-test.false) c.loop-r.invariant
