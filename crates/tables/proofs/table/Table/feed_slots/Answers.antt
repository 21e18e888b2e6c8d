use Rattle.std.proofs.Common.{◌≡◌, ◌+◌, ◌<◌, length, arith}
use Rattle.format.specs.Table.{padded}
use Rattle.write.proofs.Feeding.{fed_refused, part_none, part_more, part_stop, part_done}
use Rattle.tables.specs.Forms.{halves}
use Rattle.tables.specs.Parts.{glyph_at, slots_from, slots_data}
use Rattle.tables.proofs.Slots.{slots_next, slots_none}
use Rattle.tables.proofs.table.Table.feed_slots.Goals as goal

pub loop-n-init : goal.loop-n-init
loop-n-init g c = part_none

pub loop-n-preserved : goal.loop-n-preserved
loop-n-preserved g c =
    let gs = g.P.TableParts.glyphs c.args.self.now.parts.now in
    let s = halves c.args.self.now.form in
    let n = c.loop-n.n in
    let h : n < length gs = omega arith in
    part_more (padded s (glyph_at gs n)) (slots_data (slots_from s gs (n + 1))) (slots_next s gs n h) c.loop-n.invariant c.in_ok-feed_slot.ensures.outcome

pub returns-in_err-feed_slot : goal.returns-in_err-feed_slot
returns-in_err-feed_slot g c =
    let gs = g.P.TableParts.glyphs c.args.self.now.parts.now in
    let s = halves c.args.self.now.form in
    let n = c.loop-n.n in
    let h : n < length gs = omega arith in
    fed_refused c.from_residual.result c.from_residual.ensures.1
    (part_stop (padded s (glyph_at gs n)) (slots_data (slots_from s gs (n + 1))) (slots_next s gs n h) c.loop-n.invariant _ c.in_err-feed_slot.ensures)

pub returns : goal.returns
returns g c =
    let gs = g.P.TableParts.glyphs c.args.self.now.parts.now in
    let e : c.loop-n.n ≡ length gs = omega arith in
    part_done (slots_none (halves c.args.self.now.form) gs c.loop-n.n e) c.loop-n.invariant
