-- How values are held in runs, and how a list of values is cut into them, whatever the values.
use Rattle.std.specs.Prelude.{◌≡◌, ℕ, zero, suc, ◌+◌, ◌-◌, ◌<◌, ◌≤◌, Bool, true, false, cond, List, [], ◌∷◌, map, length, take, drop, Some, None, Option}
use Rattle.variations.specs.declared.runs.Step.{Step}
use Rattle.format.specs.Bytes.{joined}

-- a run of a cut
pub record Cut (K V : Type 0) : Type 0 where
  pub kind : K
  pub values : List V

-- kinds K of runs of values V
pub record Form (K V : Type 0) : Type 0 where
  -- the smallest kind that holds a value
  pub kind_of : V → K
  -- does a run of the first kind stop before a value of the second kind, with what follows that value?
  pub stops : K → K → Option K → Bool
  pub holds : K → V → Bool
  -- the bits of the control that tell the kind, and the number of bytes of a value
  pub flag : K → ℕ
  pub width : K → ℕ
  pub value_bytes : K → V → List ℕ
  -- the runs of a list, and its bytes
  pub cut : List V → List (Cut K V)
  pub bytes : List V → List ℕ

module _ {K V : Type 0} (f : Form K V) where
  -- the kind of a first value, if there is one
  abbrev pub first_kind : List V → Option K
  first_kind [] = None
  first_kind (y ∷ ys) = Some (f.kind_of y)

  abbrev pub kind_ahead : Option (Step V) → Option K
  kind_ahead None = None
  kind_ahead (Some s) = Some (f.kind_of s.value)

  -- how many values of the list a run of this kind takes, at most `most`; the list is split before the number
  abbrev pub reach : K → ℕ → List V → ℕ
  reach k most [] = 0
  reach k zero (x ∷ xs) = 0
  reach k (suc most) (x ∷ xs) = cond (f.stops k (f.kind_of x) (first_kind xs)) 0 (suc (reach k most xs))

  -- cut from the front, each run at most `most` values; the number bounds how many runs there are
  abbrev pub cut_at_most : ℕ → ℕ → List V → List (Cut K V)
  cut_at_most most zero xs = []
  cut_at_most most (suc m) [] = []
  cut_at_most most (suc m) (x ∷ xs) =
      let n = reach (f.kind_of x) (most - 1) xs in
      record { kind = f.kind_of x; values = x ∷ take n xs } ∷ cut_at_most most m (drop n xs)

  -- the bytes of a run: the control, then the values
  abbrev pub run_bytes : Cut K V → List ℕ
  run_bytes r = (f.flag r.kind + (length r.values - 1)) ∷ joined (map (f.value_bytes r.kind) r.values)

-- where a run ends does not depend on what follows the value before which it may stop
abbrev pub Blind : {K V : Type 0} → Form K V → Type 0
Blind {K = K} f = (k this : K) (next : Option K) → f.stops k this next ≡ f.stops k this None

-- what every form keeps, where a run has at most `most` values
pub record Lawful {K V : Type 0} (f : Form K V) (most : ℕ) : Type 0 where
  pub some_values : 0 < most
  pub few : most ≤ 128
  -- a kind holds its own values, and those that its runs do not stop before
  pub own : (v : V) → f.holds (f.kind_of v) v ≡ true
  pub taken : (k : K) (v : V) (next : Option K) → f.stops k (f.kind_of v) next ≡ false → f.holds k v ≡ true
  pub wide : (k : K) (v : V) → length (f.value_bytes k v) ≡ f.width k
  pub narrow : (k : K) → f.width k ≤ 2
  -- the control is a byte
  pub flagged : (k : K) → f.flag k + most ≤ 256
  pub cuts : (vs : List V) → f.cut vs ≡ cut_at_most f most (length vs) vs
  pub joins : (vs : List V) → f.bytes vs ≡ joined (map (run_bytes f) (f.cut vs))
