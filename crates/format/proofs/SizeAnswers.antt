-- The conditions on a glyph's sizes: which is the first that applies, and that none does exactly where the sizes fit.
use Rattle.std.proofs.Common.{◌≡◌, ℕ, zero, suc, ◌+◌, ◌<◌, ◌≤◌, Bool, true, false, ltb, ◌⊎◌, List, [], ◌∷◌, map, length, get_or, refl, ap, ◌∙◌, inl, inr, arith}
use mathlib.Core.Option.{Option, none, some}
use Rattle.std.specs.List.{AllByRecursion}
use Rattle.std.proofs.lemmas.Bool.{ltb-true, ltb-false, lt-ltb, le-ltb}
use Rattle.std.proofs.ByRecursion.{All-append}
use Rattle.format.specs.Account.{Variation, Glyph, Declined, Condition, iff, first_of}
use Rattle.format.specs.Packed.{Points}
use Rattle.format.specs.Glyphs.{peaks_seen, point_sets, shared_points, data_bytes}
use Rattle.format.specs.Table.{variations_of, data_conditions, size_conditions}
use Rattle.format.specs.Answers.{by_set, data_size, headers_size, DataFit, SizesFit}
use Rattle.format.proofs.Conditions.{Off}
use Rattle.format.proofs.Firsts.{some_same, none_some, first_left, first_after, first_either}
use Rattle.format.proofs.Lists.{all_parts}

-- The data of each variation

module _ (s : Option Points) (g : ℕ) where
  abbrev size_at : List Variation → ℕ → ℕ
  size_at vs i = get_or (map (λ v. length (data_bytes s v)) vs) i 0

  -- the first that is too long, with its number counted from i
  pub record FirstLong (i : ℕ) (vs : List Variation) (d : Declined) : Type 0 where
    pub place : ℕ
    pub at : ℕ
    pub is : i + place ≡ at
    pub inside : place < length vs
    pub long : 65535 < size_at vs place
    pub fit_before : (j : ℕ) → j < place → size_at vs j ≤ 65535
    pub named : by_set 12 (some g) (some at) ≡ d

  pub first_long : (i : ℕ) (vs : List Variation) (d : Declined) → first_of (data_conditions s g i vs) ≡ some d → FirstLong i vs d
  first_long i [] d e = none_some d e
  first_long i (v ∷ vs) d e = by (ltb 65535 (length (data_bytes s v))) refl e (first_long (suc i) vs d)
    where
      before : (p : ℕ) → length (data_bytes s v) ≤ 65535 → ((j : ℕ) → j < p → size_at vs j ≤ 65535) → (j : ℕ) → j < suc p → size_at (v ∷ vs) j ≤ 65535
      before p l h zero k = l
      before p l h (suc j) k = h j (omega arith)

      by : (b : Bool) → ltb 65535 (length (data_bytes s v)) ≡ b → first_of (iff b (by_set 12 (some g) (some i)) ∷ data_conditions s g (suc i) vs) ≡ some d →
          (first_of (data_conditions s g (suc i) vs) ≡ some d → FirstLong (suc i) vs d) → FirstLong i (v ∷ vs) d
      by true q h k =
          record {
            place = 0;
            at = i;
            is = omega arith;
            inside = omega arith;
            long = ltb-true 65535 (length (data_bytes s v)) q;
            fit_before = λ j l. absurd (omega arith);
            named = some_same (by_set 12 (some g) (some i)) d h;
          }
      by false q h k =
          let r = k h in
          record {
            place = suc r.place;
            at = r.at;
            is = omega (arith, r.is);
            inside = omega (arith, r.inside);
            long = r.long;
            fit_before = before r.place (ltb-false 65535 (length (data_bytes s v)) q) r.fit_before;
            named = r.named;
          }

  pub long_first : (i : ℕ) (vs : List Variation) (p k : ℕ) → i + p ≡ k → p < length vs → 65535 < size_at vs p → ((j : ℕ) → j < p → size_at vs j ≤ 65535) →
      first_of (data_conditions s g i vs) ≡ some (by_set 12 (some g) (some k))
  long_first i [] p k e l m h = absurd (omega arith)
  long_first i (v ∷ vs) zero k e l m h =
      let q : i ≡ k = omega arith in
      rw (lt-ltb 65535 (length (data_bytes s v)) m) (ap (λ (n : ℕ). some (by_set 12 (some g) (some n))) q)
  long_first i (v ∷ vs) (suc p) k e l m h =
      rw (le-ltb 65535 (length (data_bytes s v)) (h 0 (omega arith))) (long_first (suc i) vs p k (omega arith) (omega arith) m (λ j b. h (suc j) (omega arith)))

  pub data_fit : (i : ℕ) (vs : List Variation) → AllByRecursion Off (data_conditions s g i vs) → (j : ℕ) → j < length vs → size_at vs j ≤ 65535
  data_fit i [] h j l = absurd (omega arith)
  data_fit i (v ∷ vs) h zero l = ltb-false 65535 (length (data_bytes s v)) h.0
  data_fit i (v ∷ vs) h (suc j) l = data_fit (suc i) vs h.1 j (omega arith)

  pub fit_data : (i : ℕ) (vs : List Variation) → ((j : ℕ) → j < length vs → size_at vs j ≤ 65535) → AllByRecursion Off (data_conditions s g i vs)
  fit_data i [] h = tt
  fit_data i (v ∷ vs) h = (le-ltb 65535 (length (data_bytes s v)) (h 0 (omega arith)), fit_data (suc i) vs (λ j l. h (suc j) (omega arith)))

-- All sizes of a glyph

module _ (gs : List Glyph) (n : ℕ) where
  abbrev points : Option Points
  points = shared_points (point_sets (variations_of n gs))

  abbrev of_data : List Condition
  of_data = data_conditions points n 0 (variations_of n gs)

  abbrev of_headers : List Condition
  of_headers = iff (ltb 65535 (headers_size gs n)) (by_set 13 (some n) none) ∷ []

  abbrev pub of_sizes : List Condition
  of_sizes = size_conditions (peaks_seen gs) n (variations_of n gs)

  pub sizes_fit : AllByRecursion Off of_sizes → SizesFit gs n
  sizes_fit h =
      let p = all_parts Off of_data of_headers h in
      (data_fit points n 0 (variations_of n gs) p.0, ltb-false 65535 (headers_size gs n) p.1.0)

  pub fit_sizes : SizesFit gs n → AllByRecursion Off of_sizes
  fit_sizes h = All-append Off of_data of_headers (fit_data points n 0 (variations_of n gs) h.0) (le-ltb 65535 (headers_size gs n) h.1, tt)

  -- the data of variation i is the first that is too long
  pub record LongData (d : Declined) : Type 0 where
    pub which : ℕ
    pub inside : which < length (variations_of n gs)
    pub fit_before : (j : ℕ) → j < which → data_size gs n j ≤ 65535
    pub long : 65535 < data_size gs n which
    pub named : by_set 12 (some n) (some which) ≡ d

  -- or all data fit, and the headers do not
  abbrev pub LongHeaders : Declined → Type 0
  LongHeaders d = DataFit gs n × (65535 < headers_size gs n) × (by_set 13 (some n) none ≡ d)

  pub size_reason : (d : Declined) → first_of of_sizes ≡ some d → LongData d ⊎ LongHeaders d
  size_reason d e = by (first_either of_data of_headers d e)
    where
      last : (b : Bool) → ltb 65535 (headers_size gs n) ≡ b → first_of (iff b (by_set 13 (some n) none) ∷ []) ≡ some d → (65535 < headers_size gs n) × (by_set 13 (some n) none ≡ d)
      last true q h = (ltb-true 65535 (headers_size gs n) q, some_same (by_set 13 (some n) none) d h)
      last false q h = none_some d h

      by : (first_of of_data ≡ some d) ⊎ (AllByRecursion Off of_data × (first_of of_headers ≡ some d)) → LongData d ⊎ LongHeaders d
      by (inl p) =
          let r = first_long points n 0 (variations_of n gs) d p in
          let s : r.place ≡ r.at = omega (arith, r.is) in
          inl (record { which = r.place; inside = r.inside; fit_before = r.fit_before; long = r.long; named = ap (λ (i : ℕ). by_set 12 (some n) (some i)) s ∙ r.named })
      by (inr p) =
          let h = last (ltb 65535 (headers_size gs n)) refl p.1 in
          inr (data_fit points n 0 (variations_of n gs) p.0, h.0, h.1)

  pub long_data_first : (i : ℕ) → i < length (variations_of n gs) → ((j : ℕ) → j < i → data_size gs n j ≤ 65535) → 65535 < data_size gs n i →
      first_of of_sizes ≡ some (by_set 12 (some n) (some i))
  long_data_first i l h m =
      first_left of_data of_headers (by_set 12 (some n) (some i)) (long_first points n 0 (variations_of n gs) i i (omega arith) l m h)

  pub long_headers_first : DataFit gs n → 65535 < headers_size gs n → first_of of_sizes ≡ some (by_set 13 (some n) none)
  long_headers_first h m = first_after of_data of_headers (fit_data points n 0 (variations_of n gs) h) ∙ rw (lt-ltb 65535 (headers_size gs n) m)
