-- Which of 12 and 13 applies, from the sizes.
use Rattle.std.proofs.Common.{◌≡◌, ℕ, suc, ◌+◌, ◌<◌, ◌≤◌, cond, ltb, List, [], ◌∷◌, ◌++◌, length, drop, ℤ, sym, refl, ap, ◌∙◌, add-one}
use mathlib.Core.Option.{Option, none, some}
use Rattle.std.proofs.lemmas.List.{at_drop_more, at_drop_all}
use Rattle.std.proofs.lemmas.Bool.{lt-ltb, le-ltb, cond-true, cond-false}
use Rattle.format.specs.Account.{Variation, Declined, declined, Condition, iff, first_of}
use Rattle.format.specs.Packed.{Points}
use Rattle.format.specs.Glyphs.{point_sets, shared_points, data_bytes}
use Rattle.format.specs.Table.{data_conditions, size_conditions}
use Rattle.stores.specs.Parts.{variation_at, header_in, data_in, all_headers}
use Rattle.stores.specs.Sizes.{data_tests}

-- a list of tests that begins with one of 12
module _ (s : Option Points) (g j : ℕ) (v : Variation) (ws : List Variation) (cs : List Condition) where
  applies : 65535 < length (data_bytes s v) → first_of (data_conditions s g j (v ∷ ws) ++ cs) ≡ some (declined 12 (some g) (some j) none)
  applies h = cond-true (ltb 65535 (length (data_bytes s v))) _ _ (lt-ltb 65535 _ h)

  passes : length (data_bytes s v) ≤ 65535 → first_of (data_conditions s g j (v ∷ ws) ++ cs) ≡ first_of (data_conditions s g (j + 1) ws ++ cs)
  passes h =
      cond-false (ltb 65535 (length (data_bytes s v))) (some (declined 12 (some g) (some j) none)) (first_of (data_conditions s g (suc j) ws ++ cs)) (le-ltb 65535 _ h)
      ∙ ap (λ i. first_of (data_conditions s g i ws ++ cs)) (sym (add-one j))

module _ (g : ℕ) (vs : List Variation) (j : ℕ) (cs : List Condition) where
  pub data_over : j < length vs → 65535 < length (data_in vs (variation_at vs j)) → first_of (data_tests g vs j cs) ≡ some (declined 12 (some g) (some j) none)
  unfolding data_tests data_in
  data_over h o =
      let s = shared_points (point_sets vs) in
      at_drop_more (λ ws. first_of (data_conditions s g j ws ++ cs)) vs j (record { tents = []; deltas = [] }) h ∙ applies s g j (variation_at vs j) (drop (j + 1) vs) cs o

  pub data_within : j < length vs → length (data_in vs (variation_at vs j)) ≤ 65535 → first_of (data_tests g vs j cs) ≡ first_of (data_tests g vs (j + 1) cs)
  unfolding data_tests data_in
  data_within h o =
      let s = shared_points (point_sets vs) in
      at_drop_more (λ ws. first_of (data_conditions s g j ws ++ cs)) vs j (record { tents = []; deltas = [] }) h ∙ passes s g j (variation_at vs j) (drop (j + 1) vs) cs o

  pub data_ended : length vs ≤ j → first_of (data_tests g vs j cs) ≡ first_of cs
  unfolding data_tests
  data_ended h = let s = shared_points (point_sets vs) in at_drop_all (λ ws. first_of (data_conditions s g j ws ++ cs)) vs j h

-- the test of 13
abbrev headers_test : List (List ℤ) → ℕ → List Variation → Condition
headers_test ps g vs = iff (ltb 65535 (4 + length (all_headers ps vs))) (declined 13 (some g) none none)

size_tests : (ps : List (List ℤ)) (g : ℕ) (vs : List Variation) → size_conditions ps g vs ≡ data_tests g vs 0 (headers_test ps g vs ∷ [])
unfolding data_tests header_in
size_tests ps g vs = refl

module _ (ps : List (List ℤ)) (g : ℕ) (vs : List Variation) where
  -- the data of a variation does not fit
  pub data_refused : (d : Declined) → ((cs : List Condition) → first_of (data_tests g vs 0 cs) ≡ some d) → first_of (size_conditions ps g vs) ≡ some d
  data_refused d h = ap first_of (size_tests ps g vs) ∙ h (headers_test ps g vs ∷ [])

  module _ (h : (cs : List Condition) → first_of (data_tests g vs 0 cs) ≡ first_of cs) (n : ℕ) (e : n ≡ length (all_headers ps vs)) where
    tested : first_of (size_conditions ps g vs) ≡ cond (ltb 65535 (4 + n)) (some (declined 13 (some g) none none)) none
    tested =
        ap first_of (size_tests ps g vs)
        ∙ h (headers_test ps g vs ∷ [])
        ∙ ap (λ k. cond (ltb 65535 (4 + k)) (some (declined 13 (some g) none none)) none) (sym e)

    -- all data fits, and the headers do not
    pub headers_refused : 65535 < 4 + n → first_of (size_conditions ps g vs) ≡ some (declined 13 (some g) none none)
    headers_refused o = tested ∙ cond-true (ltb 65535 (4 + n)) _ _ (lt-ltb 65535 (4 + n) o)

    -- all fits
    pub all_within : 4 + n ≤ 65535 → first_of (size_conditions ps g vs) ≡ none
    all_within o = tested ∙ cond-false (ltb 65535 (4 + n)) _ _ (le-ltb 65535 (4 + n) o)
