-- Number, glyph, variation and place of each fault of a slot.
use Rattle.std.proofs.Math.Option.{Option, none, some}
use Rattle.std.specs.Prelude.{ℕ, Some, None, Option as Maybe}
use Rattle.format.specs.Account.{Declined}
use Rattle.format.specs.Reader.{at_entry, at_slot}
use Rattle.streams.specs.Faults.{stream_declined}
use Rattle.slots.specs.declared.fault.EntryFault.{EntryFault}
use Rattle.slots.specs.declared.fault.EntryFault.TheVariants.{Stream, LeftOver}
use Rattle.slots.specs.declared.fault.SlotFault.{SlotFault}
use Rattle.slots.specs.declared.fault.SlotFault.TheVariants.{Short, NoHeader, NoPeak, Offset, NoData, Shared, InEntry, Tail}

-- what an answer of the code says
abbrev pub said : {X : Type 0} → Maybe X → Option X
said None = none
said (Some x) = some x

-- a fault of an entry's data; glyph and variation are those of d
abbrev pub entry_declined : (ℕ → ℕ → Declined) → EntryFault → Declined
entry_declined d (Stream f) = stream_declined d f
entry_declined d (LeftOver at) = d 24 at

-- a fault of the slot of glyph g
abbrev pub slot_declined : ℕ → SlotFault → Declined
slot_declined g (Short at) = at_slot g 21 at
slot_declined g (NoHeader i at) = at_entry g i 21 at
slot_declined g (NoPeak i at) = at_entry g i 21 at
slot_declined g (Offset at) = at_slot g 21 at
slot_declined g (NoData i at) = at_entry g i 21 at
slot_declined g (Shared f) = stream_declined (at_slot g) f
slot_declined g (InEntry i f) = entry_declined (at_entry g i) f
slot_declined g (Tail at) = at_slot g 25 at
