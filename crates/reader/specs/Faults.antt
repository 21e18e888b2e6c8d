-- Number, layer, glyph, variation and place of every fault.
use Rattle.std.proofs.Math.Option.{none, some}
use Rattle.format.specs.Account.{Declined, declined, table, slot, entry, stream}
use Rattle.format.specs.Account.{Layer as LayerOfFault}
use Rattle.format.specs.Reader.{in_table}
use Rattle.slots.specs.Faults.{slot_declined}
use Rattle.reader.specs.declared.fault.TableFault.{TableFault}
use Rattle.reader.specs.declared.fault.TableFault.TheVariants.{Short, Version, NoOffsets, NoPeaks, NoData, Offset}
use Rattle.reader.specs.declared.fault.Fault.{Fault}
use Rattle.reader.specs.declared.fault.Fault.TheVariants.{InTable, NoGlyph, InSlot}
use Rattle.reader.specs.declared.fault.Layer.{Layer}
use Rattle.reader.specs.declared.fault.Layer.TheVariants.{Table, Slot, Entry, Stream}

-- number and place of each fault of a table
abbrev pub table_declined : TableFault → Declined
table_declined Short = declined 16 none none none
table_declined Version = in_table 17 0
table_declined NoOffsets = in_table 18 12
table_declined NoPeaks = in_table 18 8
table_declined NoData = in_table 18 16
table_declined (Offset at) = in_table 19 at

-- each fault of a reading
abbrev pub fault_declined : Fault → Declined
fault_declined (InTable f) = table_declined f
fault_declined (NoGlyph g) = declined 20 (some g) none none
fault_declined (InSlot g f) = slot_declined g f

-- a layer as the definitions have it
abbrev pub layer_said : Layer → LayerOfFault
layer_said Table = table
layer_said Slot = slot
layer_said Entry = entry
layer_said Stream = stream
