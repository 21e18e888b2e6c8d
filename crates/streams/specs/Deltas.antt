-- What is ahead of a cursor over packed deltas.
use Rattle.std.specs.Prelude.{◌≡◌, ℕ, ◌+◌, ◌%◌, List, [], ◌∷◌, length, drop, ℤ, Some, None, Ok, Err, Option as Maybe, Result}
use Rattle.std.proofs.Math.Option.{Option, none, some}
use Rattle.format.specs.Account.{Declined}
use Rattle.format.specs.Packed.{Kind, zeros, bytes, words}
use Rattle.format.specs.Streams.{rest, found, fault, read_values, run_kind, held, read_deltas}
use Rattle.streams.specs.declared.fault.StreamFault.{StreamFault}
use Rattle.streams.specs.declared.fault.StreamFault.TheVariants.{Deltas}
use Rattle.streams.specs.declared.runs.RunCursor.{RunCursor}
use Rattle.streams.specs.declared.runs.Unpacked.{Unpacked}
use Rattle.kinds.specs.declared.delta.DeltaKind.{DeltaKind}
use Rattle.kinds.specs.declared.delta.DeltaKind.TheVariants.{Zeros, Bytes, Words}
use Rattle.streams.specs.declared.deltas.DeltaPacking.{DeltaPacking}
use Rattle.streams.specs.Faults.{stream_declined}
use Rattle.streams.specs.Ahead.{Ahead}
use Rattle.streams.specs.Runs.{Form, stream_ahead, ahead, RunStep}

-- the format's kind of a run, by the cursor's, and the cursor's by the format's
abbrev pub kind_of : DeltaKind → Kind
kind_of Zeros = zeros
kind_of Bytes = bytes
kind_of Words = words

abbrev pub kept_as : Kind → DeltaKind
kept_as zeros = Zeros
kept_as bytes = Bytes
kept_as words = Words

-- the run of a kind, if there is one, with n values after its first
abbrev pub run_in : ℕ → Option Kind → Maybe (DeltaKind × ℕ)
run_in n none = None
run_in n (some k) = Some (kept_as k, n)

-- the first of the values
abbrev pub first_delta : DeltaPacking → ℕ → List ℤ → Maybe (Unpacked ℤ DeltaPacking)
first_delta q past [] = None
first_delta q past (v ∷ vs) = Some (record { value = v; past = past; packing = q })

-- the value that was read, if its bytes are there
abbrev pub delta_in : DeltaPacking → ℕ → Option (List ℤ × List ℕ) → Maybe (Unpacked ℤ DeltaPacking)
delta_in q past none = None
delta_in q past (some r) = first_delta q past r.0

-- how deltas are packed: the format says the kind that a control begins, and reads a value as a run of one
abbrev pub delta_form : Form DeltaPacking DeltaKind ℤ
delta_form =
    record {
      begins = λ c. run_in (c % 64) (run_kind c);
      blames = λ at. Deltas at;
      unpacks = λ q k bs at. delta_in q (at + held (kind_of k) 1) (read_values (kind_of k) 1 (drop at bs));
    }

abbrev pub DeltaCursor : Type 0
DeltaCursor = RunCursor DeltaPacking DeltaKind

-- a stream of k deltas
abbrev pub deltas_from : List ℕ → ℕ → ℕ → Ahead ℤ
deltas_from bs k at = stream_ahead delta_form bs k (record {}) at

-- what a cursor has ahead
abbrev pub deltas_ahead : DeltaCursor → Ahead ℤ
deltas_ahead c = ahead delta_form c

-- one call: its answer and what it leaves
abbrev pub DeltaStep : DeltaCursor → Result (Maybe ℤ) StreamFault → DeltaCursor → Type 0
DeltaStep c r c' = RunStep delta_form c r c'

-- the place past k deltas, or their fault
abbrev pub PastDeltas : List ℕ → ℕ → ℕ → Result ℕ StreamFault → Type 0
PastDeltas bs at k (Ok past) =
    (vs : List ℤ) × ((d : ℕ → ℕ → Declined) → read_deltas d k (drop at bs) at ≡ found (rest vs (drop past bs) past)) × (length vs ≡ k)
PastDeltas bs at k (Err f) = (d : ℕ → ℕ → Declined) → read_deltas d k (drop at bs) at ≡ fault (stream_declined d f)
