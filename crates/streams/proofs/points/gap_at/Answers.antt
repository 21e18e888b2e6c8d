use Rattle.streams.proofs.Shorts.{no_gap}
use Rattle.streams.proofs.points.gap_at.Goals as goal

pub returns-in_err-word_at-in-Words : goal.returns-in_err-word_at-in-Words
returns-in_err-word_at-in-Words c =
    rw (c.from_residual-in_err-word_at-in-Words.ensures, c.in-Words.is) (no_gap c.args.table.now c.args.at c.in_err-word_at-in-Words.ensures.ends)
