-- What the headers of a slot say, by places in the table.
use Rattle.std.specs.Prelude.{◌≡◌, ℕ, ◌+◌, ◌*◌, ◌≤◌, Bool, cond, not, ◌&&◌, List, length, drop, ℤ, Some, None, Ok, Err, Option as Maybe, Result, nat_le}
use Rattle.std.proofs.Math.Option.{Option, none, some}
use Rattle.format.specs.Account.{Declined, first_of}
use Rattle.format.specs.Bytes.{signed16}
use Rattle.format.specs.Streams.{rest, found, fault, read_words}
use Rattle.format.specs.Reader.{Header, header_of, is_embedded, is_regional, peak_index, read_header, read_headers, peak_conditions}
use Rattle.slots.specs.declared.fault.SlotFault.{SlotFault}
use Rattle.slots.specs.declared.headers.Head.{Head}
use Rattle.slots.specs.Faults.{slot_declined}

-- how many words the tuples of a header take
abbrev pub tuple_words : ℕ → ℕ → ℕ
tuple_words a w = cond (is_embedded w) a 0 + cond (is_regional w) (2 * a) 0

-- the shared peak that an index word asks for is not there, of so many
abbrev pub no_peak : ℕ → ℕ → Bool
no_peak w count = not (is_embedded w) && nat_le count (peak_index w)

-- a header with the values of its tuples, which lie in the table
pub record HeadRead (bs : List ℕ) (at a : ℕ) (h : Head) : Type 0 where
  pub values : List ℤ
  pub place : h.past ≡ at + 4 + 2 * tuple_words a h.index
  pub inside : h.past ≤ length bs
  pub tuples_read : read_words signed16 (tuple_words a h.index) (drop (at + 4) bs) ≡ some (values, drop h.past bs)
  pub is_read : read_header a (drop at bs) at ≡ some (rest (header_of a at h.size h.index values) (drop h.past bs) h.past)

-- a header is read, or goes past the end
abbrev pub HeadFound : List ℕ → ℕ → ℕ → Maybe Head → Type 0
HeadFound bs at a None = read_header a (drop at bs) at ≡ none
HeadFound bs at a (Some h) = HeadRead bs at a h

-- the place past n headers, or their fault
abbrev pub HeadsPast : List ℕ → ℕ → ℕ → ℕ → Result ℕ SlotFault → Type 0
HeadsPast bs at a n (Ok past) = (hs : List Header) × ((g : ℕ) → read_headers g a 0 n (drop at bs) at ≡ found (rest hs (drop past bs) past))
HeadsPast bs at a n (Err f) = (g : ℕ) → read_headers g a 0 n (drop at bs) at ≡ fault (slot_declined g f)

-- the fault of the first header whose shared peak is not there
abbrev pub peaks_fault : ℕ → Result (Unit {0}) SlotFault → Option Declined
peaks_fault g (Ok u) = none
peaks_fault g (Err f) = some (slot_declined g f)

-- where n headers are read, this is what is wrong with their shared peaks
abbrev pub PeaksChecked : List ℕ → ℕ → ℕ → ℕ → ℕ → Result (Unit {0}) SlotFault → Type 0
PeaksChecked bs at a n peaks r =
    (g : ℕ) (hs : List Header) (left : List ℕ) (past : ℕ) → read_headers g a 0 n (drop at bs) at ≡ found (rest hs left past) →
    first_of (peak_conditions g peaks 0 hs) ≡ peaks_fault g r
