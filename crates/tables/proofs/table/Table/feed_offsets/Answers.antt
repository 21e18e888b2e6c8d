use Rattle.std.proofs.Common.{◌≡◌, ◌+◌, ◌<◌, [], length, arith}
use Rattle.format.specs.Table.{offset_bytes}
use Rattle.write.proofs.Feeding.{fed_refused, fed_whole, part_none}
use Rattle.tables.specs.Forms.{halves}
use Rattle.tables.specs.Parts.{slots_from, offsets_data}
use Rattle.tables.proofs.Batches.{held_emptied, held_stop, held_more, held_last}
use Rattle.tables.proofs.Slots.{offsets_next, offsets_last}
use Rattle.tables.proofs.table.Table.feed_offsets.Goals as goal

pub loop-n-init : goal.loop-n-init
loop-n-init g c = (omega arith, rw c.new-batch.ensures part_none)

pub loop-n-preserved : goal.loop-n-preserved
loop-n-preserved g c =
    let gs = g.P.TableParts.glyphs c.args.self.now.parts.now in
    let s = halves c.args.self.now.form in
    let n = c.loop-n.n in
    let o = c.loop-n.offset in
    let free = c.make_room.new.batch in
    let size = c.slot_size-offset in
    let h : n < length gs = omega arith in
    let next = offsets_next s gs n o size.result h size.ensures.is in
    let rest = offsets_data s o (slots_from s gs n) in
    let emptied = held_emptied c.loop-n.batch rest c.loop-n.invariant.1 free c.in_ok-make_room.ensures.1 in (
      omega (arith, size.ensures.small, c.loop-n.invariant.0),
      held_more free rest emptied c.put_offset.new.batch (offset_bytes s o) (offsets_data s (o + size.result) (slots_from s gs (n + 1))) next c.put_offset.ensures.bytes,
    )

pub returns-in_err-make_room : goal.returns-in_err-make_room
returns-in_err-make_room g c =
    let gs = g.P.TableParts.glyphs c.args.self.now.parts.now in
    let s = halves c.args.self.now.form in
    let rest = offsets_data s c.loop-n.offset (slots_from s gs c.loop-n.n) in
    fed_refused c.from_residual.result c.from_residual.ensures.1 (held_stop c.loop-n.batch rest c.loop-n.invariant.1 _ c.in_err-make_room.ensures)

pub returns-in_err-make_room-2 : goal.returns-in_err-make_room-2
returns-in_err-make_room-2 g c =
    let gs = g.P.TableParts.glyphs c.args.self.now.parts.now in
    let s = halves c.args.self.now.form in
    let rest = offsets_data s c.loop-n.offset (slots_from s gs c.loop-n.n) in
    fed_refused c.from_residual-in_err-make_room-2.result c.from_residual-in_err-make_room-2.ensures.1
    (held_stop c.loop-n.batch rest c.loop-n.invariant.1 _ c.in_err-make_room-2.ensures)

pub returns : goal.returns
returns g c =
    let gs = g.P.TableParts.glyphs c.args.self.now.parts.now in
    let s = halves c.args.self.now.form in
    let n = c.loop-n.n in
    let o = c.loop-n.offset in
    let free = c.make_room-2.new.batch in
    let held = c.put_offset-2.new.batch in
    let e : n ≡ length gs = omega arith in
    let rest = offsets_data s o (slots_from s gs n) in
    let emptied = held_emptied c.loop-n.batch rest c.loop-n.invariant.1 free c.in_ok-make_room-2.ensures.1 in
    let part = held_more free rest emptied held (offset_bytes s o) [] (offsets_last s gs n o e) c.put_offset-2.ensures.bytes in
    let is = c.taken.ensures in
    held_last held part c.take.result (fed_whole c.take.result (rw is at c.take.ensures))
