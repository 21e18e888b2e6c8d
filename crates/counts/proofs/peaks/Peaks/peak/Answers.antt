use Rattle.std.proofs.Common.{ℕ, take, drop, ap, ◌∙◌}
use Rattle.counts.proofs.RowPlaces.{rows_at, rows_past}
use Rattle.counts.proofs.peaks.Peaks.peak.Goals as goal

pub returns-then-i-self : goal.returns-then-i-self
returns-then-i-self c =
    let s = c.args.self.now in
    rows_past s.axes s.values.now s.count c.args.i c.if-i-self.true

pub returns : goal.returns
returns c =
    let s = c.args.self.now in
    c.row.ensures ∙ ap (λ (k : ℕ). take s.axes (drop k s.values.now)) c.place-at.ensures.is
    ∙ rows_at s.axes s.values.now s.count c.args.i c.if-i-self.false
