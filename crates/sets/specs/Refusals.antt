-- What each refusal means: its number, the glyph and the variation concerned.
use Rattle.std.proofs.Math.Option.{Option, none, some}
use Rattle.std.specs.Prelude.{ℕ, Some, None, Ok, Err, Option as Optional, Result}
use Rattle.format.specs.Account.{Declined, declined}
use Rattle.sets.specs.declared.refusal.Refusal.TheVariants.{TooManyAxes, NumberTooLarge, AlreadyBegun, NoGlyph, TentCount, TooManyDeltas, DeltaCount, TooManyVariations, NoGlyphCell, NoVariationCells, NumbersNotFull, TooFewCountCells, DataTooLarge, HeadersTooLarge, GlyphsTooLarge, SinkTooSmall}
use Rattle.sets.specs.declared.refusal.Refusal.{Refusal}

-- the refusal as the account of the calls has it
abbrev pub declined_of : Refusal → Declined
declined_of TooManyAxes = declined 1 none none none
declined_of (NumberTooLarge g) = declined 2 (some g) none none
declined_of (AlreadyBegun g) = declined 3 (some g) none none
declined_of NoGlyph = declined 4 none none none
declined_of (TentCount g v) = declined 5 (some g) (some v) none
declined_of (TooManyDeltas g v) = declined 6 (some g) (some v) none
declined_of (DeltaCount g v) = declined 7 (some g) (some v) none
declined_of (TooManyVariations g v) = declined 8 (some g) (some v) none
declined_of (NoGlyphCell g) = declined 9 (some g) none none
declined_of (NoVariationCells g v) = declined 9 (some g) (some v) none
declined_of NumbersNotFull = declined 10 none none none
declined_of TooFewCountCells = declined 11 none none none
declined_of (DataTooLarge g v) = declined 12 (some g) (some v) none
declined_of (HeadersTooLarge g) = declined 13 (some g) none none
declined_of GlyphsTooLarge = declined 14 none none none
declined_of SinkTooSmall = declined 15 none none none

-- the answer of a call: nothing where it is granted
abbrev pub answer_of : Result (Unit {0}) Refusal → Option Declined
answer_of (Ok u) = none
answer_of (Err e) = some (declined_of e)

-- a glyph or a variation, if one is named
abbrev pub named : Optional ℕ → Option ℕ
named None = none
named (Some n) = some n
