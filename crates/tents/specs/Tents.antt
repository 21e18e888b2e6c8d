-- The tents of the program as the definitions of the table have them.
use Rattle.std.specs.Prelude.{ℤ, Bool, Some, None, Option as Optional}
use Rattle.std.specs.Ordering.{on, eq_of_both, int_eq}
use Rattle.std.proofs.Math.Option.{Option, none, some}
use Rattle.format.specs.Account.{Given, tent}
use Rattle.format.specs.Account.{Tent as AxisTent}
use Rattle.tents.specs.declared.tent.Bounds.{Bounds}
use Rattle.tents.specs.declared.tent.Tent.{Tent}

-- bounds, if they are handed in
abbrev pub bounds_of : Optional Bounds → Option (ℤ × ℤ)
bounds_of None = none
bounds_of (Some b) = some (b.min, b.max)

-- a tent as it is handed in
abbrev pub given : Tent → Given
given t = record { peak = t.peak; bounds = bounds_of t.bounds }

-- and with the bounds that it has: its own or those implied
abbrev pub tent_of : Tent → AxisTent
tent_of t = tent (given t)

-- a peak as it is handed in, with or without bounds
abbrev pub given_of : ℤ → Optional (ℤ × ℤ) → Given
given_of p None = record { peak = p; bounds = none }
given_of p (Some b) = record { peak = p; bounds = some b }

-- tents are the same where their peaks and their bounds are, given or implied
abbrev pub same_tent : Tent → Tent → Bool
same_tent = eq_of_both (on (λ t. (tent_of t).peak) int_eq) (eq_of_both (on (λ t. (tent_of t).start) int_eq) (on (λ t. (tent_of t).end) int_eq))
