use Rattle.std.proofs.Common.{rules}
use Rattle.std.proofs.Output.{has_written_append, has_written_of_eq}
use Rattle.printed.proofs.Pieces.{byte_more}
use Rattle.printed.proofs.bytes.BytesDisplay.fmt.Goals as goal

pub loop-b-preserved : goal.loop-b-preserved
loop-b-preserved g c p =
    has_written_of_eq
    _
    _
    _
    _
    _
    (byte_more c.args.self.now.0.now c.loop-b.b-index c.loop-b-test.true (search rules))
    (has_written_append _ _ _ _ _ _ (c.loop-b.invariant p) (search rules))
