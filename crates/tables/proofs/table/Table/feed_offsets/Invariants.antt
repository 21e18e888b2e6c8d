use Rattle.std.proofs.Common.{◌*◌, ◌≤◌, ◌++◌}
use Rattle.write.specs.Sinks.{Part}
use Rattle.tables.specs.Forms.{halves}
use Rattle.tables.specs.Parts.{slots_from, offsets_data}
use Rattle.tables.proofs.table.Table.feed_offsets.Given as goal

abbrev pub invariant-loop-n : goal.invariant-loop-n
invariant-loop-n g l =
    let s = g.S.Sink in
    let h = halves l.self.form in
    let gs = g.P.TableParts.glyphs l.self.parts.now in
    (l.offset ≤ 17179869184 * l.n)
    × Part s.step (offsets_data h 0 (slots_from h gs 0)) (l.batch ++ offsets_data h l.offset (slots_from h gs l.n)) (s.stands l.initial.sink) (s.stands l.sink)
