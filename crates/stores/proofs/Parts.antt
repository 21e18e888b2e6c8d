-- A glyph's bytes from their parts, and the flag of shared points.
use Rattle.std.proofs.Common.{◌≡◌, ℕ, ◌+◌, ◌<◌, Bool, true, false, cond, leb, List, [], ◌∷◌, ◌++◌, length, ℤ, sym, refl, ap, arith, length-append}
use mathlib.Core.Option.{Option, none, some}
use Rattle.format.specs.Account.{Variation}
use Rattle.format.specs.Bytes.{word}
use Rattle.format.specs.Packed.{Points, every, only, count_bytes, packed_points}
use Rattle.format.specs.Glyphs.{point_sets, shared_points, shared_part, shared_flag, glyph_bytes}
use Rattle.stores.specs.Parts.{shared_of, flag_of, header_in, data_in, all_headers, all_data, first_words}

-- two words, the headers, the shared points, the data
pub store_parts : (ps : List (List ℤ)) (vs : List Variation) → 0 < length vs → first_words ps vs ++ (all_headers ps vs ++ (shared_of vs ++ all_data vs)) ≡ glyph_bytes ps vs
unfolding shared_of flag_of header_in data_in
store_parts ps [] h = absurd (omega arith)
store_parts ps (v ∷ vs) h = refl

-- no variations, no bytes
pub no_bytes : (ps : List (List ℤ)) (vs : List Variation) → length vs ≡ 0 → glyph_bytes ps vs ≡ []
no_bytes ps [] e = refl
no_bytes ps (v ∷ vs) e = absurd (omega arith)

-- the size of the whole, from the sizes of the parts
pub store_long : (ps : List (List ℤ)) (vs : List Variation) (a b d : ℕ) → 0 < length vs → a ≡ length (all_headers ps vs) → b ≡ length (shared_of vs) → d ≡ length (all_data vs) →
    ((4 + a) + b) + d ≡ length (glyph_bytes ps vs)
store_long ps vs a b d h ea eb ed =
    let l = ap length (sym (store_parts ps vs h)) in
    let m = length-append (all_headers ps vs) (shared_of vs ++ all_data vs) in
    let n = length-append (shared_of vs) (all_data vs) in
    omega arith

count_some : (k : ℕ) → 0 < length (count_bytes k)
count_some k = by (leb k 127)
  where
    by : (b : Bool) → 0 < length (cond b (k ∷ []) (word (32768 + k)))
    by true = omega arith
    by false = omega arith

-- packed points have a byte
points_some : (p : Points) → 0 < length (packed_points p)
points_some every = omega arith
points_some (only ps) = simp length-append (let h = count_some (length ps) in omega arith)

flag_told : (s : Option Points) (n : ℕ) → n ≡ length (shared_part s) → (0 < n → 32768 ≡ shared_flag s) × (n ≡ 0 → 0 ≡ shared_flag s)
flag_told none n e = (λ h. absurd (omega arith), λ z. refl)
flag_told (some p) n e = (λ h. refl, λ z. absurd (let h = points_some p in omega arith))

-- points are shared where they have bytes
pub flag_is : (vs : List Variation) (n : ℕ) → n ≡ length (shared_of vs) → (0 < n → 32768 ≡ flag_of vs) × (n ≡ 0 → 0 ≡ flag_of vs)
unfolding shared_of flag_of
flag_is vs n e = flag_told (shared_points (point_sets vs)) n e
