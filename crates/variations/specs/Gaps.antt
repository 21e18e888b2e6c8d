-- The gaps between required points.
use Rattle.std.specs.Prelude.{ℕ, ◌-◌, List, map, length, drop}
use Rattle.format.specs.Bytes.{joined}
use Rattle.format.specs.Packed.{gaps_after, GapRun, gap_run_bytes, cut_gaps_at_most}
use Rattle.format.specs.Glyphs.{required_from}
use Rattle.variations.specs.declared.delta.GlyphDelta.{GlyphDelta}
use Rattle.variations.specs.Deltas.{deltas_of}

-- the gaps from a place on: the point before it is the one before that place, or point 0 at the start
abbrev pub gaps_from : List GlyphDelta → ℕ → List ℕ
gaps_from ds p = gaps_after (p - 1) (required_from p (deltas_of (drop p ds)))

abbrev pub cut_gaps : List ℕ → List GapRun
cut_gaps gs = cut_gaps_at_most (length gs) gs

abbrev pub gap_runs_bytes : List ℕ → List ℕ
gap_runs_bytes gs = joined (map gap_run_bytes (cut_gaps gs))
