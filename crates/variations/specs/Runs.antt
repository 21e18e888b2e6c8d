-- The run that values have at a place.
use Rattle.std.specs.Prelude.{◌≡◌, ℕ, ◌+◌, ◌<◌, ◌≤◌, true, List, [], ◌∷◌, length, take, drop, Some, None, Option}
use Rattle.std.specs.List.{AllByRecursion}
use Rattle.variations.specs.declared.runs.Run.{Run}
use Rattle.variations.specs.declared.runs.Step.{Step}
use Rattle.variations.specs.Forms.{Cut, Form}

-- the first of the values from a place on and the place after it, or the end
abbrev pub Stepped : {V : Type 0} → (ℕ → List V) → ℕ → ℕ → Option (Step V) → Type 0
Stepped values places p None = values p ≡ []
Stepped values places p (Some s) = (p < s.after) × (s.after ≤ places) × (values p ≡ s.value ∷ values s.after)

-- the run of a cut that a run of the program is, where the values from its start on are these
abbrev pub run_of : {K V : Type 0} → Run K → List V → Cut K V
run_of r vs = record { kind = r.kind; values = take r.count vs }

pub record RunAt {K V : Type 0} (f : Form K V) (most : ℕ) (values : ℕ → List V) (places p : ℕ) (r : Run K) : Type 0 where
  pub starts : r.start ≡ p
  pub some_values : 0 < r.count
  pub few : r.count ≤ most
  pub enough : r.count ≤ length (values p)
  pub paced : p + r.count ≤ r.after
  pub within : r.after ≤ places
  pub rest : drop r.count (values p) ≡ values r.after
  pub fit : AllByRecursion (λ v. f.holds r.kind v ≡ true) (take r.count (values p))
  pub first : f.cut (values p) ≡ run_of r (values p) ∷ f.cut (values r.after)

abbrev pub NextRun : {K V : Type 0} → Form K V → ℕ → (ℕ → List V) → ℕ → ℕ → Option (Run K) → Type 0
NextRun f most values places p None = values p ≡ []
NextRun f most values places p (Some r) = RunAt f most values places p r

-- the place of the cursor after it gave this
abbrev pub place_after : {K : Type 0} → ℕ → Option (Run K) → ℕ
place_after p None = p
place_after p (Some r) = r.after
