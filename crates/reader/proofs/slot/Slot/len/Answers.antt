use Rattle.std.proofs.Common.{◌-◌, drop, sym, ◌∙◌}
use Rattle.format.specs.Reader.{checked}
use Rattle.reader.proofs.SlotWalkSteps.{heads_count, entries_count}
use Rattle.reader.proofs.slot.Slot.len.Goals as goal

pub returns : goal.returns
returns c =
    let s = c.args.self.now in
    record {
      bound = c.saturating_sub.ensures;
      entries = λ es w.
          c.saturating_sub.ensures
          ∙ sym (heads_count w.glyph s.table.head.axes (s.rest.count - s.i) s.i (drop s.rest.header s.bytes.now) s.rest.header w.headers w.left w.past w.heads_read)
          ∙ sym (entries_count (checked s.table.bytes.now) w.glyph s.p w.set s.i w.headers (drop s.rest.body s.bytes.now) s.rest.body es w.after w.end w.entries_read);
    }
