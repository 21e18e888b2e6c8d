use Rattle.std.proofs.Common.{◌≡◌, ◌+◌, ◌-◌, drop, sym, ap, ◌∙◌, arith, rules, tests}
use Rattle.std.proofs.lemmas.Result.{err_from_is_err_and}
use Rattle.format.specs.Reader.{checked, read_bytes_of_slot, read_slot}
use Rattle.format.proofs.Mapped.{ok_told, err_told}
use Rattle.slots.specs.Slots.{SlotChecked}
use Rattle.reader.specs.declared.fault.Fault.TheVariants.{InSlot}
use Rattle.reader.proofs.SlotWalkSteps.{first_list}
use Rattle.reader.proofs.SlotPlaces.{first_inside, second_inside, located}
use Rattle.reader.proofs.table.Table.slot.Goals as goal

pub returns-in_err-rest : goal.returns-in_err-rest
returns-in_err-rest c w =
    let r = err_from_is_err_and c.from_residual.result c.from_residual.ensures.1 in
    let h = c.args.self.now.head in
    let bs = c.args.self.now.bytes.now in
    let g = c.args.glyph in
    let p = c.args.p in
    let t = sym c.is_no_glyph.ensures ∙ c.if-is_no_glyph.false in
    let at = h.data_at + c.offset.result in
    let place : read_slot (checked bs) g p ≡ read_bytes_of_slot (checked bs) g p (drop at c.upto-bytes.result.now) at =
    located bs g p h w.its_head w.no_fault t c.offset.result c.offset-2.result
    (c.offset.ensures (first_inside bs g p h w.its_head w.no_fault t)) (c.offset-2.ensures (second_inside bs g p h w.its_head w.no_fault t))
    ∙ ap (λ l. read_bytes_of_slot (checked bs) g p (drop at l) at) (sym c.upto-bytes.ensures) in
    let q = err_told (SlotChecked c.upto-bytes.result.now at h.axes h.peaks p) _ c.check_slot.result c.map_err.result c.map_err.ensures.cases _ c.in_err-rest.was c.check_slot.ensures in
    let e : c.in_err-rest.field-0.0 ≡ InSlot g q.0 = search (rules, tests) in
    rw (r.1, r.2, e) (place ∙ q.1 (checked bs) g (sym (ap (λ x. x.axes) w.its_head)) (sym (ap (λ x. x.peaks) w.its_head)))

pub returns : goal.returns
returns c w =
    let h = c.args.self.now.head in
    let bs = c.args.self.now.bytes.now in
    let g = c.args.glyph in
    let p = c.args.p in
    let t = sym c.is_no_glyph.ensures ∙ c.if-is_no_glyph.false in
    let at = h.data_at + c.offset.result in
    let place : read_slot (checked bs) g p ≡ read_bytes_of_slot (checked bs) g p (drop at c.upto-bytes.result.now) at =
    located bs g p h w.its_head w.no_fault t c.offset.result c.offset-2.result
    (c.offset.ensures (first_inside bs g p h w.its_head w.no_fault t)) (c.offset-2.ensures (second_inside bs g p h w.its_head w.no_fault t))
    ∙ ap (λ l. read_bytes_of_slot (checked bs) g p (drop at l) at) (sym c.upto-bytes.ensures) in
    let k = ok_told (SlotChecked c.upto-bytes.result.now at h.axes h.peaks p) _ c.check_slot.result c.map_err.result c.map_err.ensures.cases _ c.in_ok-rest.was c.check_slot.ensures in
    let q = k.entries_read (checked bs) g (sym (ap (λ x. x.axes) w.its_head)) (sym (ap (λ x. x.peaks) w.its_head)) in
    let z : c.in_ok-rest.rest.count - 0 ≡ c.in_ok-rest.rest.count = omega arith in
    record {
      entries = q.0;
      is_read = place ∙ q.4;
      walk = record {
        sound = w;
        slot_end = h.data_at + c.offset-2.result;
        in_table = c.upto-bytes.ensures;
        set = k.set;
        number = k.number;
        set_read = first_list (record { table = c.args.self.now; bytes = c.upto-bytes.result; p = p; i = 0; rest = c.in_ok-rest.rest }) c.in_ok-rest.rest.points p c.in_ok-rest.rest.body k.set k.set_read;
        glyph = g;
        headers = k.headers;
        left = k.left;
        past = k.past;
        heads_read = rw z (k.heads_read g);
        peaks_there = k.peaks_there g;
        after = q.1;
        end = q.2;
        entries_read = q.3;
      };
    }
