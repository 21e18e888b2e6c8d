use Rattle.std.proofs.Common.{◌≡◌, ◌+◌, Bool, [], take, drop, None, Option as Maybe, sym, refl, ◌∙◌, subst, arith, rules, tests}
use Rattle.format.specs.Reader.{checked, is_private, read_entries, entry_of, header_of}
use Rattle.format.proofs.Mapped.{some_told, none_told}
use Rattle.slots.specs.Walks.{EntryAt}
use Rattle.slots.proofs.HeadSteps.{not_both, un_one}
use Rattle.slots.proofs.WalkSteps.{good_entry, moved}
use Rattle.reader.specs.declared.points.PointList.{PointList}
use Rattle.reader.specs.SlotWalks.{shared_list, ListOf}
use Rattle.reader.proofs.SlotWalkSteps.{peaks_next, list_read}
use Rattle.reader.proofs.slot.SlotIterator.next.Goals as goal

pub returns-in_err-step-clause-steps : goal.returns-in_err-step-clause-steps
returns-in_err-step-clause-steps c =
    let s = c.args.self.now in
    let n : c.from_residual.result ≡ None = search (rules, tests) in
    let f = none_told (EntryAt s.bytes.now s.rest.header s.rest.body s.i s.table.head.axes s.p s.rest.shared) c.entry_at.result c.ok.result c.ok.ensures.value c.in_err-step.was c.entry_at.ensures in
    rw n (record {
      walked = λ es w.
          absurd (not_both (read_entries (checked s.table.bytes.now) w.glyph s.p w.set s.i w.headers (drop s.rest.body s.bytes.now) s.rest.body) _ _
          (f.1 (checked s.table.bytes.now) w.glyph w.set s.rest.count w.headers w.left w.past w.number (omega arith) w.heads_read) w.entries_read);
      falls = tt;
    })

pub returns-clause-steps : goal.returns-clause-steps
returns-clause-steps c =
    let s = c.args.self.now in
    let k = checked s.table.bytes.now in
    let y = some_told (EntryAt s.bytes.now s.rest.header s.rest.body s.i s.table.head.axes s.p s.rest.shared) c.entry_at.result c.ok.result c.ok.ensures.value _ c.in_ok-step.was c.entry_at.ensures in
    let q = c.in_ok-step.step in
    record {
      walked = λ es w.
          let g = w.glyph in
          let a = s.table.head.axes in
          let h = header_of a s.rest.header q.head.size q.head.index y.head.values in
          let m = good_entry k g s.p w.set s.i s.bytes.now s.rest.header s.rest.body a s.rest.count w.headers w.left w.past (omega arith) w.heads_read s.rest.shared q w.number y in
          let r = y.parts w.set w.number in
          let x = entry_of k h s.p r.set r.xs r.ys in
          let u = un_one x (read_entries k g s.p w.set (s.i + 1) m.0 (drop q.next s.bytes.now) q.next) es w.after w.end (sym m.2 ∙ w.entries_read) in
          let p = peaks_next g s.table.head.peaks s.i w.headers h m.0 m.3 w.peaks_there in
          let t = moved (take q.end s.bytes.now) c.upto-bytes.result.now s.rest.body s.p w.set (is_private q.head.index) q.parts c.upto-bytes.ensures r in
          let l = list_read (is_private q.head.index) c.upto-bytes.result.now s.rest.body s.p w.set q.parts (shared_list s) c.list_of-list.result t w.set_read
          (subst (λ (m : Maybe PointList). ListOf (is_private q.head.index) c.upto-bytes.result.now s.rest.body m c.list_of-list.result) c.shared_list.ensures
          (subst (λ (b : Bool). ListOf b c.upto-bytes.result.now s.rest.body c.shared_list.result c.list_of-list.result) c.is_private.ensures c.list_of-list.ensures)) in (
            x,
            u.0,
            u.2,
            record {
              sound = w.sound;
              slot_end = w.slot_end;
              in_table = w.in_table;
              header = s.rest.header;
              head = y.head;
              peak_there = p.0;
              set = r.set;
              set_read = l;
              xs = r.xs;
              xs_read = (drop q.parts.y c.upto-bytes.result.now, q.parts.y, t.x_read);
              ys = r.ys;
              ys_read = ([], r.end, t.y_read);
              is_entry = refl;
            },
            record {
              sound = w.sound;
              slot_end = w.slot_end;
              in_table = w.in_table;
              set = w.set;
              number = w.number;
              set_read = w.set_read;
              glyph = g;
              headers = m.0;
              left = w.left;
              past = w.past;
              heads_read = m.1;
              peaks_there = p.1;
              after = w.after;
              end = w.end;
              entries_read = u.1;
            },
          );
      falls = omega arith;
    }
