-- The size of a glyph's bytes, or why they do not fit their fields.
use Rattle.std.specs.Prelude.{◌≡◌, ℕ, ◌*◌, ◌^◌, ◌≤◌, List, ◌++◌, length, drop, ℤ, Ok, Err, Result}
use Rattle.std.proofs.Math.Option.{none, some}
use Rattle.format.specs.Account.{Variation, Declined, declined, Condition, first_of}
use Rattle.format.specs.Glyphs.{point_sets, shared_points, glyph_bytes}
use Rattle.format.specs.Table.{data_conditions, size_conditions}
use Rattle.stores.specs.declared.size.StoreFault.{StoreFault}
use Rattle.stores.specs.declared.size.StoreFault.TheVariants.{Data, Headers}
use Rattle.stores.specs.Parts.{all_data}

-- the refusal that a fault of the glyph with this number is: 12 with the variation, 13 without
abbrev pub store_declined : ℕ → StoreFault → Declined
store_declined g (Data j) = declined 12 (some g) (some j) none
store_declined g Headers = declined 13 (some g) none none

-- the size where neither 12 nor 13 applies, and else the first that does, whatever the glyph's number
abbrev pub SizeTold : List (List ℤ) → List Variation → Result ℕ StoreFault → Type 0
SizeTold ps vs (Ok k) = ((g : ℕ) → first_of (size_conditions ps g vs) ≡ none) × (k ≡ length (glyph_bytes ps vs)) × (k ≤ 2 ^ 29)
SizeTold ps vs (Err f) = (g : ℕ) → first_of (size_conditions ps g vs) ≡ some (store_declined g f)

-- this is the answer to the size of a glyph's bytes
pub record StoreSized (ps : List (List ℤ)) (vs : List Variation) (r : Result ℕ StoreFault) : Type 0 where
  pub told : SizeTold ps vs r

-- the tests of 12 from a variation on, and others after them
unfoldable pub data_tests : ℕ → List Variation → ℕ → List Condition → List Condition
data_tests g vs j others = data_conditions (shared_points (point_sets vs)) g j (drop j vs) ++ others

-- the size of all data where 12 applies to none, and else the first variation to which it does
abbrev pub DataTold : List Variation → Result ℕ StoreFault → Type 0
DataTold vs (Ok k) = ((g : ℕ) (cs : List Condition) → first_of (data_tests g vs 0 cs) ≡ first_of cs) × (k ≡ length (all_data vs)) × (k ≤ 65535 * 4095)
DataTold vs (Err f) = (g : ℕ) (cs : List Condition) → first_of (data_tests g vs 0 cs) ≡ some (store_declined g f)

-- this is the answer to the size of all data
pub record DataSized (vs : List Variation) (r : Result ℕ StoreFault) : Type 0 where
  pub told : DataTold vs r
