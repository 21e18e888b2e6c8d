use Rattle.std.proofs.Common.{ap, ◌∙◌}
use Rattle.format.specs.Reader.{points_of}
use Rattle.streams.specs.Deltas.{deltas_ahead}
use Rattle.reader.proofs.AheadSteps.{gives_all}
use Rattle.reader.proofs.PointWalkSteps.{any_decline}
use Rattle.reader.proofs.entry.Entry.moves.Goals as goal

pub returns : goal.returns
returns c x w =
    let e = c.args.self.now in
    let xs = c.new-2.result in
    let ys = c.new-3.result in
    record {
      points = points_of e.p w.set;
      xs = w.xs;
      ys = w.ys;
      points_left = c.new.ensures w.set w.set_read;
      xs_left = (w.xs_read.1, gives_all any_decline e.bytes.now (deltas_ahead xs) w.xs w.xs_read.0 w.xs_read.1 (c.new-2.ensures.read any_decline ∙ w.xs_read.2 any_decline));
      ys_left = (w.ys_read.1, gives_all any_decline e.bytes.now (deltas_ahead ys) w.ys w.ys_read.0 w.ys_read.1 (c.new-3.ensures.read any_decline ∙ w.ys_read.2 any_decline));
      in_step = ap (λ y. y.moves) w.is_entry;
    }
