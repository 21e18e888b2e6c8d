use Rattle.std.proofs.Common.{◌≡◌, refl, w16, to_z, of_z, rules}
use Rattle.format.specs.Reader.{moves_of}
use Rattle.reader.proofs.MoveSteps.{no_x, no_y, one_move}
use Rattle.reader.proofs.moves.MovesIterator.next.Goals as goal

pub returns-in_err-x-clause-steps : goal.returns-in_err-x-clause-steps
returns-in_err-x-clause-steps c =
    rw c.from_residual-in_err-x.ensures (
    record {
      moved = λ ms w. no_x ms w.points w.xs w.ys w.in_step (c.in_err-x.ensures.came w.xs w.xs_left);
      falls = tt;
    }
    )

pub returns-in_err-y-clause-steps : goal.returns-in_err-y-clause-steps
returns-in_err-y-clause-steps c =
    rw c.from_residual-in_err-y.ensures (
    record {
      moved = λ ms w. no_y ms w.points w.xs w.ys w.in_step (c.in_err-y.ensures.came w.ys w.ys_left);
      falls = tt;
    }
    )

pub returns-clause-steps : goal.returns-clause-steps
returns-clause-steps c =
    let ex : to_z w16 (of_z w16 c.in_ok-x.x) ≡ c.in_ok-x.x = search rules in
    let ey : to_z w16 (of_z w16 c.in_ok-y.y) ≡ c.in_ok-y.y = search rules in
    record {
      moved = λ ms w.
          let p = c.in_ok-point.ensures w.points w.points_left in
          let x = c.in_ok-x.ensures.came w.xs w.xs_left in
          let y = c.in_ok-y.ensures.came w.ys w.ys_left in (
            moves_of p.0 x.0 y.0,
            rw (ex, ey) (one_move ms w.points w.xs w.ys c.in_ok-point.point c.in_ok-x.x c.in_ok-y.y p.0 x.0 y.0 w.in_step p.1 x.1 y.1),
            record { points = p.0; xs = x.0; ys = y.0; points_left = p.2; xs_left = x.2; ys_left = y.2; in_step = refl },
          );
      falls = c.in_ok-x.ensures.falls;
    }
