use Rattle.std.proofs.Common.{length, ap, ◌∙◌, arith, length-append}
use Rattle.format.specs.Packed.{count_bytes}
use Rattle.format.specs.Glyphs.{required_from}
use Rattle.variations.specs.Deltas.{deltas_of}
use Rattle.variations.specs.Gaps.{gaps_from, gap_runs_bytes}
use Rattle.variations.proofs.GapBytes.{required_is}
use Rattle.variations.proofs.points.required_size.Goals as goal

pub returns-clause-size : goal.returns-clause-size
returns-clause-size c =
    let ds = c.args.deltas.now in
    let count = c.count_size.ensures.size ∙ ap (λ n. length (count_bytes n)) c.required_count.ensures in
    let runs = rw (c.new.ensures.deltas, c.new.ensures.place) at c.size.ensures.size in
    let both = ap length (required_is ds) ∙ length-append (count_bytes (length (required_from 0 (deltas_of ds)))) (gap_runs_bytes (gaps_from ds 0)) in
    omega arith
