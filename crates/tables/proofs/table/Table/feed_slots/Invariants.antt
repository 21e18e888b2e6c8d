use Rattle.write.specs.Sinks.{Part}
use Rattle.tables.specs.Forms.{halves}
use Rattle.tables.specs.Parts.{slots_from, slots_data}
use Rattle.tables.proofs.table.Table.feed_slots.Given as goal

abbrev pub invariant-loop-n : goal.invariant-loop-n
invariant-loop-n g l =
    let s = g.S.Sink in
    let gs = g.P.TableParts.glyphs l.self.parts.now in
    Part s.step (slots_data (slots_from (halves l.self.form) gs 0)) (slots_data (slots_from (halves l.self.form) gs l.n)) (s.stands l.initial.sink) (s.stands l.sink)
