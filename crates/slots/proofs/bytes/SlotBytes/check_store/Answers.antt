use Rattle.std.proofs.Common.{drop, sym, ◌∙◌}
use Rattle.std.proofs.lemmas.Result.{err_from_is_err_and}
use Rattle.format.proofs.Lists.{length_listed}
use Rattle.format.specs.Packed.{every}
use Rattle.format.specs.Reader.{at_slot}
use Rattle.slots.proofs.SlotSteps.{heads_wrong, peaks_wrong, offset_wrong, shared_wrong, entries_wrong, end_wrong, end_right, listed_is}
use Rattle.slots.proofs.bytes.SlotBytes.check_store.Goals as goal

pub returns-in_err-past : goal.returns-in_err-past
returns-in_err-past c =
    let q = err_from_is_err_and c.from_residual.result c.from_residual.ensures.1 in
    rw (q.1, q.2) (λ k g ea ek. heads_wrong k g c.args.self.now.p c.args.count c.args.offset c.args.self.now.table.now c.args.at c.args.self.now.axes c.args.self.now.peaks ea ek _ (c.in_err-past.ensures g))

pub returns-in_err-check_peaks : goal.returns-in_err-check_peaks
returns-in_err-check_peaks c =
    let q = err_from_is_err_and c.from_residual-in_err-check_peaks.result c.from_residual-in_err-check_peaks.ensures.1 in
    rw (q.1, q.2) (λ k g ea ek. peaks_wrong k g c.args.self.now.p c.args.count c.args.offset c.args.self.now.table.now c.args.at c.args.self.now.axes c.args.self.now.peaks ea ek
    c.in_ok-past.ensures.0 c.in_ok-past.past (c.in_ok-past.ensures.1 g) _
    (c.in_err-check_peaks.ensures g c.in_ok-past.ensures.0 _ c.in_ok-past.past (c.in_ok-past.ensures.1 g)))

pub returns-then-is_bad_offset : goal.returns-then-is_bad_offset
returns-then-is_bad_offset c k g ea ek =
    offset_wrong k g c.args.self.now.p c.args.count c.args.offset c.args.self.now.table.now c.args.at c.args.self.now.axes c.args.self.now.peaks ea ek
    c.in_ok-past.ensures.0 c.in_ok-past.past (c.in_ok-past.ensures.1 g)
    (c.in_ok-check_peaks.ensures g c.in_ok-past.ensures.0 _ c.in_ok-past.past (c.in_ok-past.ensures.1 g))
    (sym c.is_bad_offset.ensures ∙ c.if-is_bad_offset.true)

pub returns-in_err-set : goal.returns-in_err-set
returns-in_err-set c =
    let q = err_from_is_err_and c.from_residual-in_err-set.result c.from_residual-in_err-set.ensures.1 in
    rw (q.1, q.2) (λ k g ea ek. shared_wrong k g c.args.self.now.p c.args.count c.args.offset c.args.self.now.table.now c.args.at c.args.self.now.axes c.args.self.now.peaks ea ek
    c.in_ok-past.ensures.0 c.in_ok-past.past (c.in_ok-past.ensures.1 g)
    (c.in_ok-check_peaks.ensures g c.in_ok-past.ensures.0 _ c.in_ok-past.past (c.in_ok-past.ensures.1 g))
    (sym c.is_bad_offset.ensures ∙ c.if-is_bad_offset.false) _
    (c.in_err-set.ensures every (length_listed 0 c.args.self.now.p (λ i. i)) (at_slot g)))

pub returns-in_err-end : goal.returns-in_err-end
returns-in_err-end c =
    let q = err_from_is_err_and c.from_residual-in_err-end.result c.from_residual-in_err-end.ensures.1 in
    let s = c.in_ok-set.ensures every (length_listed 0 c.args.self.now.p (λ i. i)) in
    rw (q.1, q.2) (λ k g ea ek. entries_wrong k g c.args.self.now.p c.args.count c.args.offset c.args.self.now.table.now c.args.at c.args.self.now.axes c.args.self.now.peaks ea ek
    c.in_ok-past.ensures.0 c.in_ok-past.past (c.in_ok-past.ensures.1 g)
    (c.in_ok-check_peaks.ensures g c.in_ok-past.ensures.0 _ c.in_ok-past.past (c.in_ok-past.ensures.1 g))
    (sym c.is_bad_offset.ensures ∙ c.if-is_bad_offset.false)
    s.set c.in_ok-set.set.past (s.is_read (at_slot g)) _
    (c.in_err-end.ensures k g s.set c.in_ok-past.ensures.0 _ c.in_ok-past.past s.number (c.in_ok-past.ensures.1 g)))

pub returns-then-is_bad_end : goal.returns-then-is_bad_end
returns-then-is_bad_end c k g ea ek =
    let s = c.in_ok-set.ensures every (length_listed 0 c.args.self.now.p (λ i. i)) in
    let e = c.in_ok-end.ensures k g s.set c.in_ok-past.ensures.0 _ c.in_ok-past.past s.number (c.in_ok-past.ensures.1 g) in
    end_wrong k g c.args.self.now.p c.args.count c.args.offset c.args.self.now.table.now c.args.at c.args.self.now.axes c.args.self.now.peaks ea ek
    c.in_ok-past.ensures.0 c.in_ok-past.past (c.in_ok-past.ensures.1 g)
    (c.in_ok-check_peaks.ensures g c.in_ok-past.ensures.0 _ c.in_ok-past.past (c.in_ok-past.ensures.1 g))
    (sym c.is_bad_offset.ensures ∙ c.if-is_bad_offset.false)
    s.set c.in_ok-set.set.past (s.is_read (at_slot g)) e.0 c.in_ok-end.end e.1 (sym c.is_bad_end.ensures ∙ c.if-is_bad_end.true)

pub returns : goal.returns
returns c =
    let s = c.in_ok-set.ensures every (length_listed 0 c.args.self.now.p (λ i. i)) in
    record {
      set = s.set;
      number = s.number;
      set_read = λ d. rw c.then_some.ensures (listed_is c.args.self.now.table.now c.args.self.now.p _ c.in_ok-set.set.past _ s.set s.is_read d);
      headers = c.in_ok-past.ensures.0;
      left = drop c.in_ok-past.past c.args.self.now.table.now;
      past = c.in_ok-past.past;
      heads_read = c.in_ok-past.ensures.1;
      peaks_there = λ g. c.in_ok-check_peaks.ensures g c.in_ok-past.ensures.0 _ c.in_ok-past.past (c.in_ok-past.ensures.1 g);
      entries_read = λ k g ea ek.
          let e = c.in_ok-end.ensures k g s.set c.in_ok-past.ensures.0 _ c.in_ok-past.past s.number (c.in_ok-past.ensures.1 g) in (
            e.0,
            drop c.in_ok-end.end c.args.self.now.table.now,
            c.in_ok-end.end,
            e.1,
            end_right k g c.args.self.now.p c.args.count c.args.offset c.args.self.now.table.now c.args.at c.args.self.now.axes c.args.self.now.peaks ea ek
                c.in_ok-past.ensures.0 c.in_ok-past.past (c.in_ok-past.ensures.1 g)
                (c.in_ok-check_peaks.ensures g c.in_ok-past.ensures.0 _ c.in_ok-past.past (c.in_ok-past.ensures.1 g))
                (sym c.is_bad_offset.ensures ∙ c.if-is_bad_offset.false)
                s.set c.in_ok-set.set.past (s.is_read (at_slot g)) e.0 c.in_ok-end.end e.1 (sym c.is_bad_end.ensures ∙ c.if-is_bad_end.false),
          );
    }
