-- What is ahead of a cursor over runs, whatever their values are.
use Rattle.std.specs.Prelude.{◌≡◌, ℕ, zero, suc, ◌+◌, ◌-◌, cond, List, [], ◌∷◌, drop, Some, None, Ok, Err, Option as Maybe, Result, ◌==◌, nat_lt}
use Rattle.streams.specs.declared.fault.StreamFault.{StreamFault}
use Rattle.streams.specs.declared.runs.RunState.{RunState}
use Rattle.streams.specs.declared.runs.RunState.TheVariants.{Between, Inside, Done}
use Rattle.streams.specs.declared.runs.Unpacked.{Unpacked}
use Rattle.streams.specs.declared.runs.RunCursor.{RunCursor}
use Rattle.streams.specs.Ahead.{Ahead, ends, fails, gives, answer_of, rest_of, give_all, fails_if}

-- how values are packed: the run that a control byte begins, with its values after the first; the fault of the control
-- at a place; and the value of a run at a place
pub record Form (P K V : Type 0) : Type 0 where
  pub begins : ℕ → Maybe (K × ℕ)
  pub blames : ℕ → StreamFault
  pub unpacks : P → K → List ℕ → ℕ → Maybe (Unpacked V P)

-- with n values of a run to come
abbrev pub run_state : {K : Type 0} → K → ℕ → RunState K
run_state k n = cond (n == 0) Between (Inside k (n - 1))

module _ {P K V : Type 0} (f : Form P K V) (bs : List ℕ) where
  -- a value of the run with its control at `control`, if it is there, and what comes after it
  abbrev pub value_ahead : ℕ → Maybe (Unpacked V P) → (P → ℕ → Ahead V) → Ahead V
  value_ahead control None more = fails (f.blames control)
  value_ahead control (Some u) more = gives u.value (more u.packing u.past)

  -- n values of a run from a place of the table on, then what comes from the place past them
  abbrev pub run_ahead : K → ℕ → ℕ → P → ℕ → (P → ℕ → Ahead V) → Ahead V
  run_ahead k control zero p at more = more p at
  run_ahead k control (suc n) p at more = value_ahead control (f.unpacks p k bs at) (λ q past. run_ahead k control n q past more)

  -- the run that a control byte begins, of at most k values; `more` comes after a run with so many values after its first
  abbrev pub begun_ahead : Maybe (K × ℕ) → ℕ → ℕ → P → (ℕ → P → ℕ → Ahead V) → Ahead V
  begun_ahead None at k p more = fails (f.blames at)
  begun_ahead (Some r) at k p more = fails_if (nat_lt k (suc r.1)) (f.blames at) (run_ahead r.0 at (suc r.1) p (at + 1) (more r.1))

  -- so by the control at its place
  abbrev pub control_ahead : List ℕ → ℕ → ℕ → P → (ℕ → P → ℕ → Ahead V) → Ahead V
  control_ahead [] at k p more = fails (f.blames at)
  control_ahead (c ∷ r) at k p more = begun_ahead (f.begins c) at k p more

  -- the runs of k values; the first number bounds how many runs there are
  abbrev pub runs_ahead : ℕ → ℕ → P → ℕ → Ahead V
  runs_ahead zero k p at = ends at
  runs_ahead (suc m) zero p at = ends at
  runs_ahead (suc m) (suc k) p at = control_ahead (drop at bs) at (suc k) p (λ n q past. runs_ahead m (k - n) q past)

  -- a stream of k values
  abbrev pub stream_ahead : ℕ → P → ℕ → Ahead V
  stream_ahead k p at = runs_ahead k k p at

  -- what a cursor in this state has ahead: the run that it is in, and `left` values after it
  abbrev pub state_ahead : RunState K → ℕ → ℕ → ℕ → P → Ahead V
  state_ahead Between control at left p = stream_ahead left p at
  state_ahead (Inside k n) control at left p = run_ahead k control (suc n) p at (stream_ahead left)
  state_ahead Done control at left p = ends at

-- what a cursor has ahead
abbrev pub ahead : {P K V : Type 0} → Form P K V → RunCursor P K → Ahead V
ahead f c = state_ahead f c.table.now c.state c.control c.at c.left c.packing

-- one call: its answer and what it leaves
pub record RunStep {P K V : Type 0} (f : Form P K V) (c : RunCursor P K) (r : Result (Maybe V) StreamFault) (c' : RunCursor P K) : Type 0 where
  pub answer : r ≡ answer_of (ahead f c)
  pub left : ahead f c' ≡ rest_of (ahead f c)
  pub same : c'.table.now ≡ c.table.now

-- the place past what is ahead, or its fault
abbrev pub PastRuns : {P K V : Type 0} → Form P K V → RunCursor P K → Result ℕ StreamFault → Type 0
PastRuns {V = V} f c (Ok past) = (vs : List V) × (ahead f c ≡ give_all vs (ends past))
PastRuns {V = V} f c (Err e) = (vs : List V) × (ahead f c ≡ give_all vs (fails e))
