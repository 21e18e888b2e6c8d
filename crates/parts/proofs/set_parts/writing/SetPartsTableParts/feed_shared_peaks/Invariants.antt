use Rattle.write.specs.Sinks.{Part}
use Rattle.tables.specs.Parts.{peaks_data}
use Rattle.parts.specs.OfParts.{parts_glyphs}
use Rattle.parts.proofs.Peaks.{peaks_left}
use Rattle.parts.proofs.set_parts.writing.SetPartsTableParts.feed_shared_peaks.Given as goal

abbrev pub invariant-loop-r : goal.invariant-loop-r
invariant-loop-r g l =
    let s = g.S.Sink in
    let gs = parts_glyphs l.self in
    Part s.step (peaks_data gs) (peaks_left gs l.r) (s.stands l.initial.sink) (s.stands l.sink)
