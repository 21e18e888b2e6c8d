-- What the arguments of a variation call mean.
use Rattle.std.specs.Prelude.{List, map}
use Rattle.format.specs.Account.{Call, variation}
use Rattle.tents.specs.declared.tent.Tent.{Tent}
use Rattle.tents.specs.Tents.{given}
use Rattle.variations.specs.declared.delta.GlyphDelta.{GlyphDelta}
use Rattle.variations.specs.Deltas.{deltas_of}

-- the call that hands in these tents and deltas
abbrev pub variation_call : List Tent → List GlyphDelta → Call
variation_call ts ds = variation (map given ts) (deltas_of ds)
