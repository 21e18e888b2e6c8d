-- The entries of a slot, by places in the table.
use Rattle.std.specs.Prelude.{◌≡◌, ℕ, ◌+◌, ◌-◌, ◌<◌, ◌≤◌, List, length, take, drop, Ok, Err, Result}
use Rattle.format.specs.Packed.{Points}
use Rattle.format.specs.Streams.{rest, found, fault}
use Rattle.format.specs.Reader.{Header, Entry, Checked, is_private, points_of, read_headers, read_entries}
use Rattle.slots.specs.declared.fault.SlotFault.{SlotFault}
use Rattle.slots.specs.declared.entries.Step.{Step}
use Rattle.slots.specs.Faults.{slot_declined}
use Rattle.slots.specs.Entries.{EntryRead}
use Rattle.slots.specs.Heads.{HeadRead}

-- an entry is there: its header, where its data end, and what they hold
pub record EntryThere (bs : List ℕ) (header body a p shared : ℕ) (s : Step) : Type 0 where
  pub head : HeadRead bs header a s.head
  pub fits : s.head.size ≤ length bs - body
  pub is_cut : drop body (take s.end bs) ≡ take s.head.size (drop body bs)
  pub inside : s.end ≤ length bs
  pub next : s.next ≡ body + s.head.size
  pub parts : (t : Points) → length (points_of p t) ≡ shared → EntryRead (take s.end bs) body p t (is_private s.head.index) s.parts

-- where the headers from entry i on are read, entry i is there, or the fault of all that are left is this one
abbrev pub EntryAt : List ℕ → ℕ → ℕ → ℕ → ℕ → ℕ → ℕ → Result Step SlotFault → Type 0
EntryAt bs header body i a p shared (Ok s) = EntryThere bs header body a p shared s
EntryAt bs header body i a p shared (Err f) =
    (c : Checked) (g : ℕ) (t : Points) (n : ℕ) (hs : List Header) (left : List ℕ) (past : ℕ) → length (points_of p t) ≡ shared → i < n →
    read_headers g a i (n - i) (drop header bs) header ≡ found (rest hs left past) → read_entries c g p t i hs (drop body bs) body ≡ fault (slot_declined g f)

-- where n headers are read, the place past the data of their entries, or their fault
abbrev pub EntriesPast : List ℕ → ℕ → ℕ → ℕ → ℕ → ℕ → ℕ → Result ℕ SlotFault → Type 0
EntriesPast bs header body a p n shared (Ok end) =
    (c : Checked) (g : ℕ) (t : Points) (hs : List Header) (left : List ℕ) (past : ℕ) → length (points_of p t) ≡ shared →
    read_headers g a 0 n (drop header bs) header ≡ found (rest hs left past) → (es : List Entry) × (read_entries c g p t 0 hs (drop body bs) body ≡ found (rest es (drop end bs) end))
EntriesPast bs header body a p n shared (Err f) =
    (c : Checked) (g : ℕ) (t : Points) (hs : List Header) (left : List ℕ) (past : ℕ) → length (points_of p t) ≡ shared →
    read_headers g a 0 n (drop header bs) header ≡ found (rest hs left past) → read_entries c g p t 0 hs (drop body bs) body ≡ fault (slot_declined g f)
