use Rattle.std.proofs.Common.{◌≡◌, ◌-◌, ◌*◌, true, sym, ap, ◌∙◌, arith}
use Rattle.std.proofs.lemmas.Bool.{cond-true}
use Rattle.format.specs.Reader.{is_regional}
use Rattle.reader.proofs.TupleSteps.{starts_are, starts_inside, ends_are, ends_inside}
use Rattle.reader.proofs.TupleHolds.{holds_of}
use Rattle.reader.proofs.entry.Entry.region.Goals as goal

pub returns : goal.returns
returns c =
    let e = c.args.self.now in
    let a = e.table.head.axes in
    let is : is_regional e.head.index ≡ true = sym c.is_regional.ensures ∙ c.if-not-is_regional.false in
    let s = c.saturating_sub-start.result in
    let n = c.saturating_sub-end.result in
    let es : s ≡ e.head.past - 4 * a = omega (arith, c.saturating_sub-start.ensures) in
    let en : n ≡ e.head.past - 2 * a = omega (arith, c.saturating_sub-end.ensures) in
    record {
      stored = sym is;
      bounds = λ x w. (
        holds_of e.table c.tuple_at.result e.slot.now w.slot_end s x.start w.in_table (starts_inside e.slot.now w.header a e.head w.head is s es) c.tuple_at.ensures
            (ap (λ y. y.start) w.is_entry ∙ cond-true _ _ _ is ∙ starts_are e.slot.now w.header a e.head w.head is s es),
        holds_of e.table c.tuple_at-2.result e.slot.now w.slot_end n x.end w.in_table (ends_inside e.slot.now w.header a e.head w.head is n en) c.tuple_at-2.ensures
            (ap (λ y. y.end) w.is_entry ∙ cond-true _ _ _ is ∙ ends_are e.slot.now w.header a e.head w.head is n en),
      );
    }
