-- The walk over a slot: the entries that are still to come, and what one of them shows.
use Rattle.std.specs.Prelude.{◌≡◌, ℕ, ◌-◌, Bool, true, false, List, [], ◌∷◌, map, length, take, drop, ℤ, Some, None, Ok, Err, Option as Maybe, Result}
use Rattle.std.proofs.Math.Option.{none}
use Rattle.format.specs.Account.{Declined, first_of, implied_start, implied_end}
use Rattle.format.specs.Packed.{Points}
use Rattle.format.specs.Streams.{rest, found, fault, read_deltas}
use Rattle.format.specs.Reader.{Header, checked, header_of, entry_of, points_of, peak_conditions, read_headers, read_entries, read_slot}
use Rattle.format.specs.Reader.{Entry as ReadEntry}
use Rattle.slots.specs.Heads.{no_peak, HeadRead}
use Rattle.reader.specs.declared.fault.Fault.{Fault}
use Rattle.reader.specs.declared.table.Table.{Table}
use Rattle.reader.specs.declared.tuple.Region.{Region}
use Rattle.reader.specs.declared.points.PointList.{PointList}
use Rattle.reader.specs.declared.slot.Slot.{Slot}
use Rattle.reader.specs.declared.entry.Entry.{Entry}
use Rattle.reader.specs.Faults.{fault_declined}
use Rattle.reader.specs.Tables.{Sound}
use Rattle.reader.specs.Tuples.{Holds}
use Rattle.reader.specs.PointWalks.{ListRead}
use Rattle.reader.specs.MoveWalks.{Falls}

-- where the shared points of a slot are listed, if they are
abbrev pub list_at : Slot → Maybe ℕ → Maybe PointList
list_at s None = None
list_at s (Some at) = Some (record { bytes = s.bytes; at = at })

abbrev pub shared_list : Slot → Maybe PointList
shared_list s = list_at s s.rest.points

-- these entries are still to come
pub record Walk (s : Slot) (es : List ReadEntry) : Type 0 where
  pub sound : Sound s.table
  pub slot_end : ℕ
  pub in_table : s.bytes.now ≡ take slot_end s.table.bytes.now
  -- the shared points
  pub set : Points
  pub number : length (points_of s.p set) ≡ s.rest.shared
  pub set_read : ListRead (shared_list s) s.p set
  -- the headers that are left, each with its peak
  pub glyph : ℕ
  pub headers : List Header
  pub left : List ℕ
  pub past : ℕ
  pub heads_read : read_headers glyph s.table.head.axes s.i (s.rest.count - s.i) (drop s.rest.header s.bytes.now) s.rest.header ≡ found (rest headers left past)
  pub peaks_there : first_of (peak_conditions glyph s.table.head.peaks s.i headers) ≡ none
  -- their entries
  pub after : List ℕ
  pub end : ℕ
  pub entries_read : read_entries (checked s.table.bytes.now) glyph s.p set s.i headers (drop s.rest.body s.bytes.now) s.rest.body ≡ found (rest es after end)

-- at most so many entries are still to come
abbrev pub entries_bound : Slot → ℕ
entries_bound s = s.rest.count - s.i

-- the slot of glyph g is read, and its entries are those of the walk
pub record SlotOpened (t : Table) (g p : ℕ) (s : Slot) : Type 0 where
  pub entries : List ReadEntry
  pub is_read : read_slot (checked t.bytes.now) g p ≡ found entries
  pub walk : Walk s entries

-- the slot of glyph g is read, or its fault is this one
abbrev pub SlotAnswer : Table → ℕ → ℕ → Result Slot Fault → Type 0
SlotAnswer t g p (Ok s) = SlotOpened t g p s
SlotAnswer t g p (Err f) = read_slot (checked t.bytes.now) g p ≡ fault (fault_declined f)

-- k deltas at a place are read without fault
abbrev pub DeltasRead : List ℕ → ℕ → ℕ → List ℤ → Type 0
DeltasRead bs at k vs = (left : List ℕ) × (past : ℕ) × ((d : ℕ → ℕ → Declined) → read_deltas d k (drop at bs) at ≡ found (rest vs left past))

-- an entry shows what the definition gives: its header, points, x and y are those of the definition's entry
pub record Shows (e : Entry) (x : ReadEntry) : Type 0 where
  pub sound : Sound e.table
  pub slot_end : ℕ
  pub in_table : e.slot.now ≡ take slot_end e.table.bytes.now
  pub header : ℕ
  pub head : HeadRead e.slot.now header e.table.head.axes e.head
  pub peak_there : no_peak e.head.index e.table.head.peaks ≡ false
  pub set : Points
  pub set_read : ListRead e.list e.p set
  pub xs : List ℤ
  pub xs_read : DeltasRead e.bytes.now e.parts.x e.parts.points xs
  pub ys : List ℤ
  pub ys_read : DeltasRead e.bytes.now e.parts.y e.parts.points ys
  pub is_entry : x ≡ entry_of (checked e.table.bytes.now) (header_of e.table.head.axes header e.head.size e.head.index head.values) e.p set xs ys

-- the first of the entries came, and the others are still to come; or there is none, now and later
abbrev pub Walked : List ReadEntry → Maybe Entry → Slot → Type 0
Walked es None s = (es ≡ []) × Walk s es
Walked es (Some e) s = (x : ReadEntry) × (xs : List ReadEntry) × (es ≡ x ∷ xs) × Shows e x × Walk s xs

-- one call: the first of the entries came, and fewer are left
pub record EntryStep (s : Slot) (r : Maybe Entry) (s' : Slot) : Type 0 where
  pub walked : (es : List ReadEntry) → Walk s es → Walked es r s'
  pub falls : Falls r (entries_bound s) (entries_bound s')

-- the stored region holds the bounds, or they are the implied ones
abbrev pub Bounds : Table → ReadEntry → Maybe Region → Type 0
Bounds t x None = (x.start ≡ map implied_start x.peak) × (x.end ≡ map implied_end x.peak)
Bounds t x (Some r) = Holds t r.start x.start × Holds t r.end x.end

-- a list of points of its own at a place, or the shared one
abbrev pub ListOf : Bool → List ℕ → ℕ → Maybe PointList → Maybe PointList → Type 0
ListOf true bs at shared r = (l : PointList) × (r ≡ Some l) × (l.bytes.now ≡ bs) × (l.at ≡ at)
ListOf false bs at shared r = r ≡ shared
