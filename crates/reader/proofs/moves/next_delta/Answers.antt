use Rattle.streams.specs.Deltas.{deltas_ahead}
use Rattle.reader.proofs.AheadSteps.{falls}
use Rattle.reader.proofs.MoveSteps.{delta_came}
use Rattle.reader.proofs.moves.next_delta.Goals as goal

pub returns : goal.returns
returns c =
    let s = c.next.ensures in
    rw c.unwrap_or.ensures (
    record {
      came = λ vs h. delta_came c.args.cursor.now c.next.new.self vs h.0 c.next.result h.1 s;
      falls = falls (deltas_ahead c.args.cursor.now) (deltas_ahead c.next.new.self) c.next.result s.answer s.left;
    }
    )
