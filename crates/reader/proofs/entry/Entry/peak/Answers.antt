use Rattle.std.proofs.Common.{◌≡◌, ◌+◌, ◌-◌, ◌*◌, ◌<◌, true, false, length, sym, ap, ◌∙◌, arith}
use lib.Seq.{take-length}
use Rattle.std.proofs.lemmas.Bool.{cond-true, cond-false}
use Rattle.format.specs.Reader.{checked, word_at, shared_peak, is_embedded}
use Rattle.slots.specs.Heads.{tuple_words}
use Rattle.reader.proofs.TupleSteps.{embedded_is, embedded_inside}
use Rattle.reader.proofs.TupleHolds.{holds_of, shared_by_head, peak_is_there}
use Rattle.reader.proofs.entry.Entry.peak.Goals as goal

pub returns-then-is_embedded : goal.returns-then-is_embedded
returns-then-is_embedded c x w =
    let e = c.args.self.now in
    let a = e.table.head.axes in
    let q = c.saturating_sub.result in
    let is : is_embedded e.head.index ≡ true = sym c.is_embedded.ensures ∙ c.if-is_embedded.true in
    let at : q ≡ e.head.past - 2 * tuple_words a e.head.index = omega (arith, c.saturating_sub.ensures, c.tuple_words.ensures) in
    holds_of e.table c.tuple_at.result e.slot.now w.slot_end q x.peak w.in_table (embedded_inside e.slot.now w.header a e.head w.head q is at) c.tuple_at.ensures
    (ap (λ y. y.peak) w.is_entry ∙ cond-true _ _ _ is ∙ embedded_is e.slot.now w.header a e.head w.head q is at)

pub returns : goal.returns
returns c x w =
    let e = c.args.self.now in
    let h = e.table.head in
    let bs = e.table.bytes.now in
    let i = c.peak_index.result in
    let is : is_embedded e.head.index ≡ false = sym c.is_embedded.ensures ∙ c.if-is_embedded.false in
    let less : i < word_at bs 6 = omega (arith, peak_is_there e.head.index h.peaks is w.peak_there, c.peak_index.ensures, ap (λ y. y.peaks) w.sound.its_head) in
    let r = shared_by_head bs w.sound.no_fault i less h w.sound.its_head in
    holds_of e.table c.tuple_at-2.result bs (length bs) (h.peaks_at + 2 * (h.axes * i)) x.peak (sym (take-length bs)) r.0 c.tuple_at-2.ensures
    (ap (λ y. y.peak) w.is_entry ∙ cond-false _ _ _ is ∙ ap (λ k. shared_peak (checked bs) k) (sym c.peak_index.ensures) ∙ r.1)
