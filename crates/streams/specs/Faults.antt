-- Number and place of a stream's fault.
use Rattle.std.specs.Prelude.{ℕ}
use Rattle.format.specs.Account.{Declined}
use Rattle.streams.specs.declared.fault.StreamFault.{StreamFault}
use Rattle.streams.specs.declared.fault.StreamFault.TheVariants.{Points, Deltas}

-- number and place of each fault, handed to f
abbrev pub by_fault : {X : Type 0} → (ℕ → ℕ → X) → StreamFault → X
by_fault f (Points at) = f 22 at
by_fault f (Deltas at) = f 23 at

-- its number
abbrev pub fault_number : StreamFault → ℕ
fault_number f = by_fault (λ number at. number) f

-- its place
abbrev pub fault_place : StreamFault → ℕ
fault_place f = by_fault (λ number at. at) f

-- the fault as a reading answers it; glyph and variation are those of d
abbrev pub stream_declined : (ℕ → ℕ → Declined) → StreamFault → Declined
stream_declined d f = by_fault d f
