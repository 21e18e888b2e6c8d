-- What a slot holds, by places in the table.
use Rattle.std.specs.Prelude.{◌≡◌, ℕ, zero, suc, Bool, true, false, List, [], ◌∷◌, length, drop, Some, None, Ok, Err, Option as Maybe, Result}
use Rattle.std.proofs.Math.Option.{none}
use Rattle.format.specs.Account.{Declined, first_of}
use Rattle.format.specs.Packed.{Points, every}
use Rattle.format.specs.Streams.{Rest, rest, Read, found, fault, read_points}
use Rattle.format.specs.Reader.{Header, Entry, Checked, points_of, peak_conditions, read_headers, read_entries, read_store, read_bytes_of_slot}
use Rattle.slots.specs.declared.fault.SlotFault.{SlotFault}
use Rattle.slots.specs.declared.slot.SlotStart.{SlotStart}
use Rattle.slots.specs.Faults.{slot_declined}

-- after the last entry, more than one byte, or one that is not 0
abbrev pub bad_end : List ℕ → Bool
bad_end [] = false
bad_end (zero ∷ []) = false
bad_end (suc b ∷ []) = true
bad_end (b ∷ (b' ∷ bs)) = true

-- the shared points: those listed at a place, or every point in front of the data
abbrev pub shared_read : (ℕ → ℕ → Declined) → ℕ → List ℕ → Maybe ℕ → ℕ → Read (Rest Points)
shared_read d p bs None body = found (rest every (drop body bs) body)
shared_read d p bs (Some at) body = read_points d p (drop at bs) at

-- a slot with these shared points and headers is read, each shared peak is there, and the entries are the answer
pub record SlotRead (bs : List ℕ) (a peaks p : ℕ) (answer : Checked → ℕ → Read (List Entry)) (s : SlotStart) : Type 0 where
  pub set : Points
  pub number : length (points_of p set) ≡ s.shared
  pub set_read : (d : ℕ → ℕ → Declined) → shared_read d p bs s.points s.body ≡ found (rest set (drop s.body bs) s.body)
  pub headers : List Header
  pub left : List ℕ
  pub past : ℕ
  pub heads_read : (g : ℕ) → read_headers g a 0 s.count (drop s.header bs) s.header ≡ found (rest headers left past)
  pub peaks_there : (g : ℕ) → first_of (peak_conditions g peaks 0 headers) ≡ none
  pub entries_read : (c : Checked) (g : ℕ) → c.axes ≡ a → c.peak_count ≡ peaks → (es : List Entry) × (r : List ℕ) × (end : ℕ)
      × (read_entries c g p set 0 headers (drop s.body bs) s.body ≡ found (rest es r end)) × (answer c g ≡ found es)

-- a slot is read, or the answer is this fault
abbrev pub CheckedAs : List ℕ → ℕ → ℕ → ℕ → (Checked → ℕ → Read (List Entry)) → Result SlotStart SlotFault → Type 0
CheckedAs bs a peaks p answer (Ok s) = SlotRead bs a peaks p answer s
CheckedAs bs a peaks p answer (Err f) = (c : Checked) (g : ℕ) → c.axes ≡ a → c.peak_count ≡ peaks → answer c g ≡ fault (slot_declined g f)

-- so with the slot at a place of the table, its count word and its data offset being known
abbrev pub StoreChecked : List ℕ → ℕ → ℕ → ℕ → ℕ → ℕ → ℕ → Result SlotStart SlotFault → Type 0
StoreChecked bs at a peaks p count offset r = CheckedAs bs a peaks p (λ c g. read_store c g p count offset (drop at bs) at) r

-- so with the slot at a place of the table
abbrev pub SlotChecked : List ℕ → ℕ → ℕ → ℕ → ℕ → Result SlotStart SlotFault → Type 0
SlotChecked bs at a peaks p r = CheckedAs bs a peaks p (λ c g. read_bytes_of_slot c g p (drop at bs) at) r
