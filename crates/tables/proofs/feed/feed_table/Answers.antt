use Rattle.std.proofs.Common.{◌++◌, Err, sym, ap, ◌∙◌}
use Rattle.write.proofs.Feeding.{fed_as, fed_refused, fed_whole, fed_then, fed_stop}
use Rattle.tables.specs.Forms.{halves}
use Rattle.tables.specs.Parts.{peaks_data, slots_from, slots_data, offsets_data}
use Rattle.tables.proofs.Whole.{table_is}
use Rattle.tables.proofs.feed.feed_table.Goals as goal

pub returns-in_err-take : goal.returns-in_err-take
returns-in_err-take g c =
    let gs = g.P.TableParts.glyphs c.args.parts.now in
    let a = g.P.TableParts.axes c.args.parts.now in
    let s = halves c.form.result in
    let slots = slots_from s gs 0 in
    let is = c.taken.ensures ∙ c.head.ensures in
    λ h. fed_refused c.from_residual.result c.from_residual.ensures.1
    (fed_as (sym (table_is a gs c.args.layout h s (ap halves c.form.ensures)))
    (fed_stop (offsets_data s 0 slots ++ (peaks_data gs ++ slots_data slots)) _ (fed_whole (Err _) (rw is at c.in_err-take.ensures))))

pub returns-in_err-feed_offsets : goal.returns-in_err-feed_offsets
returns-in_err-feed_offsets g c =
    let gs = g.P.TableParts.glyphs c.args.parts.now in
    let a = g.P.TableParts.axes c.args.parts.now in
    let s = halves c.form.result in
    let is = c.taken.ensures ∙ c.head.ensures in
    λ h. fed_refused c.from_residual-in_err-feed_offsets.result c.from_residual-in_err-feed_offsets.ensures.1
    (fed_as (sym (table_is a gs c.args.layout h s (ap halves c.form.ensures)))
    (fed_then (Err _) (rw is at c.in_ok-take.ensures)
    (fed_stop (peaks_data gs ++ slots_data (slots_from s gs 0)) _ c.in_err-feed_offsets.ensures)))

pub returns-in_err-feed_shared_peaks : goal.returns-in_err-feed_shared_peaks
returns-in_err-feed_shared_peaks g c =
    let gs = g.P.TableParts.glyphs c.args.parts.now in
    let a = g.P.TableParts.axes c.args.parts.now in
    let s = halves c.form.result in
    let is = c.taken.ensures ∙ c.head.ensures in
    λ h. fed_refused c.from_residual-in_err-feed_shared_peaks.result c.from_residual-in_err-feed_shared_peaks.ensures.1
    (fed_as (sym (table_is a gs c.args.layout h s (ap halves c.form.ensures)))
    (fed_then (Err _) (rw is at c.in_ok-take.ensures)
    (fed_then (Err _) c.in_ok-feed_offsets.ensures.outcome
    (fed_stop (slots_data (slots_from s gs 0)) _ c.in_err-feed_shared_peaks.ensures))))

pub returns : goal.returns
returns g c =
    let gs = g.P.TableParts.glyphs c.args.parts.now in
    let a = g.P.TableParts.axes c.args.parts.now in
    let r = c.feed_slots.result in
    let is = c.taken.ensures ∙ c.head.ensures in
    λ h. fed_as (sym (table_is a gs c.args.layout h (halves c.form.result) (ap halves c.form.ensures)))
    (fed_then r (rw is at c.in_ok-take.ensures)
    (fed_then r c.in_ok-feed_offsets.ensures.outcome
    (fed_then r c.in_ok-feed_shared_peaks.ensures.outcome c.feed_slots.ensures)))
