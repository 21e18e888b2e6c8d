-- What is ahead of a cursor over packed points.
use Rattle.std.specs.Prelude.{◌≡◌, ℕ, zero, suc, ◌+◌, ◌-◌, ◌*◌, ◌%◌, Bool, true, false, cond, List, [], ◌∷◌, length, drop, Some, None, Ok, Err, Option as Maybe, Result, ◌==◌, nat_le, nat_lt}
use Rattle.std.proofs.Math.Option.{Option, none, some}
use Rattle.format.specs.Account.{Declined}
use Rattle.format.specs.Bytes.{pair}
use Rattle.format.specs.Packed.{every}
use Rattle.format.specs.Packed.{Points as PointSetRead}
use Rattle.format.specs.Streams.{Rest, rest, Read, found, fault, read_gaps, points_after, rises, point_runs, counted_points, read_points}
use Rattle.format.specs.Reader.{points_of}
use Rattle.streams.specs.declared.fault.StreamFault.{StreamFault}
use Rattle.streams.specs.declared.fault.StreamFault.TheVariants.{Points}
use Rattle.streams.specs.declared.runs.RunCursor.{RunCursor}
use Rattle.streams.specs.declared.runs.Unpacked.{Unpacked}
use Rattle.kinds.specs.declared.point.PointKind.{PointKind}
use Rattle.kinds.specs.declared.point.PointKind.TheVariants.{Bytes, Words}
use Rattle.streams.specs.declared.points.PointPacking.{PointPacking}
use Rattle.streams.specs.declared.points.PointCount.{PointCount}
use Rattle.streams.specs.declared.points.PointSet.{PointSet}
use Rattle.streams.specs.Faults.{stream_declined}
use Rattle.streams.specs.Ahead.{Ahead}
use Rattle.streams.specs.Runs.{Form, stream_ahead, ahead, RunStep}

-- do the gaps of a run take two bytes each?
abbrev pub is_wide : PointKind → Bool
is_wide Bytes = false
is_wide Words = true

-- the bytes of n gaps
abbrev pub gaps_held : Bool → ℕ → ℕ
gaps_held wide n = cond wide (2 * n) n

-- the first of the gaps, and the place past it
abbrev pub first_gap : ℕ → List ℕ → Maybe (ℕ × ℕ)
first_gap past [] = None
first_gap past (g ∷ gs) = Some (g, past)

-- the gap that was read, if its bytes are there
abbrev pub gap_of : ℕ → Option (List ℕ × List ℕ) → Maybe (ℕ × ℕ)
gap_of past none = None
gap_of past (some r) = first_gap past r.0

-- the gap in front of the bytes, which are those from the place `at` on: the format reads it as a run of one
abbrev pub gap_in : PointKind → List ℕ → ℕ → Maybe (ℕ × ℕ)
gap_in k bs at = gap_of (at + gaps_held (is_wide k) 1) (read_gaps (is_wide k) 1 bs)

-- the first of the points: those after it are above it
abbrev pub first_point : PointPacking → ℕ → List ℕ → Maybe (Unpacked ℕ PointPacking)
first_point s past [] = None
first_point s past (q ∷ qs) = Some (record { value = q; past = past; packing = record { p = s.p; from = q; low = suc q } })

-- the point at a gap from the last one, if it rises and is below p
abbrev pub point_at : PointPacking → Maybe (ℕ × ℕ) → Maybe (Unpacked ℕ PointPacking)
point_at s None = None
point_at s (Some g) =
    let qs = points_after s.from (g.0 ∷ []) in
    cond (rises s.low s.p qs) (first_point s g.1 qs) None

-- how points are packed: the high bit of a control says how wide the gaps of its run are
abbrev pub point_form : Form PointPacking PointKind ℕ
point_form =
    record {
      begins = λ c. Some (cond (nat_le 128 c) Words Bytes, c % 128);
      blames = λ at. Points at;
      unpacks = λ s k bs at. point_at s (gap_in k (drop at bs) at);
    }

abbrev pub PointCursor : Type 0
PointCursor = RunCursor PointPacking PointKind

-- a stream of k points below p
abbrev pub points_from : ℕ → List ℕ → ℕ → ℕ → Ahead ℕ
points_from p bs k at = stream_ahead point_form bs k (record { p = p; from = 0; low = 0 }) at

-- what a cursor has ahead
abbrev pub points_ahead : PointCursor → Ahead ℕ
points_ahead c = ahead point_form c

-- one call: its answer and what it leaves
abbrev pub PointStep : PointCursor → Result (Maybe ℕ) StreamFault → PointCursor → Type 0
PointStep c r c' = RunStep point_form c r c'

-- a count and the place past it
abbrev pub counted : ℕ → ℕ → PointCount
counted n past = record { count = n; past = past }

-- the count of two bytes, which is not 0
abbrev pub two_byte_count : ℕ → List ℕ → ℕ → Result PointCount StreamFault
two_byte_count c [] at = Err (Points at)
two_byte_count c (b ∷ r) at = cond (pair (c - 128) b == 0) (Err (Points at)) (Ok (counted (pair (c - 128) b) (at + 2)))

-- the count in front of the bytes: of one byte, or of two where its high bit is set
abbrev pub count_in : List ℕ → ℕ → Result PointCount StreamFault
count_in [] at = Err (Points at)
count_in (c ∷ r) at = cond (nat_lt c 128) (Ok (counted c (at + 1))) (two_byte_count c r at)

-- the points by their count, 0 for every point
abbrev pub by_count : (ℕ → ℕ → Declined) → ℕ → List ℕ → ℕ → ℕ → Read (Rest PointSetRead)
by_count d p bs zero past = found (rest every (drop past bs) past)
by_count d p bs (suc n) past = counted_points d p (suc n) (drop past bs) past

-- what is read after the count was
abbrev pub after_count : (ℕ → ℕ → Declined) → ℕ → List ℕ → Result PointCount StreamFault → Read (Rest PointSetRead)
after_count d p bs (Ok h) = by_count d p bs h.count h.past
after_count d p bs (Err f) = fault (stream_declined d f)

-- the place past k points, or their fault
abbrev pub PastPointRuns : List ℕ → ℕ → ℕ → ℕ → Result ℕ StreamFault → Type 0
PastPointRuns bs at p k (Ok past) =
    (qs : List ℕ) × ((d : ℕ → ℕ → Declined) → point_runs d k p k 0 0 (drop at bs) at ≡ found (rest qs (drop past bs) past)) × (length qs ≡ k)
PastPointRuns bs at p k (Err f) = (d : ℕ → ℕ → Declined) → point_runs d k p k 0 0 (drop at bs) at ≡ fault (stream_declined d f)

-- how many points a set of points has, and the place past it
pub record SetRead (bs : List ℕ) (at p : ℕ) (s : PointSet) : Type 0 where
  pub set : PointSetRead
  pub is_read : (d : ℕ → ℕ → Declined) → read_points d p (drop at bs) at ≡ found (rest set (drop s.past bs) s.past)
  pub number : length (points_of p set) ≡ s.size

-- a set of points as it is read, or its fault
abbrev pub PastPoints : List ℕ → ℕ → ℕ → Result PointSet StreamFault → Type 0
PastPoints bs at p (Ok s) = SetRead bs at p s
PastPoints bs at p (Err f) = (d : ℕ → ℕ → Declined) → read_points d p (drop at bs) at ≡ fault (stream_declined d f)
