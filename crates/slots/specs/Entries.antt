-- What the data of one entry hold, by places in the table.
use Rattle.std.specs.Prelude.{◌≡◌, ℕ, Bool, cond, List, [], length, drop, ℤ, Ok, Err, Result}
use Rattle.format.specs.Account.{Declined}
use Rattle.format.specs.Packed.{Points}
use Rattle.format.specs.Streams.{Rest, rest, Read, found, fault, read_points, read_deltas}
use Rattle.format.specs.Reader.{Header, Checked, is_private, read_entry, points_of}
use Rattle.streams.specs.declared.fault.StreamFault.{StreamFault}
use Rattle.streams.specs.declared.points.PointSet.{PointSet}
use Rattle.streams.specs.Faults.{stream_declined}
use Rattle.slots.specs.declared.fault.EntryFault.{EntryFault}
use Rattle.slots.specs.declared.entry.Parts.{Parts}
use Rattle.slots.specs.Faults.{entry_declined}

-- the points of an entry: its own, or the shared ones
abbrev pub own_or_shared : (ℕ → ℕ → Declined) → ℕ → Points → Bool → List ℕ → ℕ → Read (Rest Points)
own_or_shared d p shared private bs at = cond private (read_points d p bs at) (found (rest shared bs at))

-- they are read: how many, and the place past them
pub record PointsRead (bs : List ℕ) (at p : ℕ) (shared : Points) (private : Bool) (q : PointSet) : Type 0 where
  pub set : Points
  pub is_read : (d : ℕ → ℕ → Declined) → own_or_shared d p shared private (drop at bs) at ≡ found (rest set (drop q.past bs) q.past)
  pub number : length (points_of p set) ≡ q.size

-- they are read, or their fault is this one
abbrev pub PointsFound : List ℕ → ℕ → ℕ → Points → Bool → Result PointSet StreamFault → Type 0
PointsFound bs at p shared private (Ok q) = PointsRead bs at p shared private q
PointsFound bs at p shared private (Err f) = (d : ℕ → ℕ → Declined) → own_or_shared d p shared private (drop at bs) at ≡ fault (stream_declined d f)

-- an entry is read, with its parts at these places
pub record EntryRead (bs : List ℕ) (at p : ℕ) (shared : Points) (private : Bool) (q : Parts) : Type 0 where
  pub set : Points
  pub xs : List ℤ
  pub ys : List ℤ
  pub end : ℕ
  pub set_read : (d : ℕ → ℕ → Declined) → own_or_shared d p shared private (drop at bs) at ≡ found (rest set (drop q.x bs) q.x)
  pub number : length (points_of p set) ≡ q.points
  pub x_read : (d : ℕ → ℕ → Declined) → read_deltas d q.points (drop q.x bs) q.x ≡ found (rest xs (drop q.y bs) q.y)
  pub y_read : (d : ℕ → ℕ → Declined) → read_deltas d q.points (drop q.y bs) q.y ≡ found (rest ys [] end)

-- an entry is read, or its fault is this one
abbrev pub Parted : List ℕ → ℕ → ℕ → Points → Bool → Result Parts EntryFault → Type 0
Parted bs at p shared private (Ok q) = EntryRead bs at p shared private q
Parted bs at p shared private (Err f) =
    (d : ℕ → ℕ → Declined) (c : Checked) (h : Header) → is_private h.index ≡ private → read_entry c d p shared h (drop at bs) at ≡ fault (entry_declined d f)
