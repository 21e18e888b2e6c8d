use Rattle.std.proofs.Common.{◌≡◌, ℕ, ◌^◌, ◌≤◌, Ok, Err, Result, List, length, ℤ, refl, arith}
use mathlib.Core.Option.{Option, none, some}
use Rattle.std.specs.Result.{result_unwrap_or}
use Rattle.format.specs.Account.{Variation, Declined, first_of}
use Rattle.format.specs.Glyphs.{glyph_bytes}
use Rattle.format.specs.Table.{size_conditions}
use Rattle.stores.specs.declared.size.StoreFault.{StoreFault}
use Rattle.stores.specs.Sizes.{SizeTold}
use Rattle.stores.proofs.size.known_size.Goals as goal

-- what is refused is not granted
apart : (o : Option Declined) (d : Declined) → o ≡ none → o ≡ some d → ⊥
apart o d p q = let z : ◌≡◌ {A = ℕ} 0 1 = cc in omega arith

module _ (ps : List (List ℤ)) (vs : List Variation) where
  granted : (r : Result ℕ StoreFault) → SizeTold ps vs r → (g : ℕ) → first_of (size_conditions ps g vs) ≡ none → result_unwrap_or r 0 ≡ length (glyph_bytes ps vs)
  granted (Ok n) told g e = told.1
  granted (Err f) told g e = absurd (apart _ _ e (told g))

  refused : (r : Result ℕ StoreFault) → SizeTold ps vs r → (g : ℕ) (d : Declined) → first_of (size_conditions ps g vs) ≡ some d → result_unwrap_or r 0 ≡ 0
  refused (Ok n) told g d e = absurd (apart _ d (told.0 g) e)
  refused (Err f) told g d e = refl

  most : (r : Result ℕ StoreFault) → SizeTold ps vs r → result_unwrap_or r 0 ≤ 2 ^ 29
  most (Ok n) told = told.2
  most (Err f) told = omega arith

pub returns : goal.returns
returns g c =
    let t = g.T.TupleVariations in
    let ps = t.peaks c.args.store.now in
    let vs = t.variations c.args.store.now in
    let told = c.store_size.ensures.told in
    rw c.unwrap_or.ensures (record { size = granted ps vs c.store_size.result told; refused = refused ps vs c.store_size.result told; most = most ps vs c.store_size.result told })
