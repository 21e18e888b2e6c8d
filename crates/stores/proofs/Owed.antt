-- For an implementation of the interface: the parts in the words of the table, and how long a header can be.
use Rattle.std.proofs.Common.{◌≡◌, ℕ, ◌+◌, ◌*◌, ◌≤◌, Bool, true, false, List, [], ◌∷◌, map, length, ℤ, refl, arith, length-append}
use mathlib.Core.Option.{Option, none, some}
use lib.ListN.{length-map}
use Rattle.format.specs.Account.{Tent, Variation}
use Rattle.format.specs.Bytes.{signed_words}
use Rattle.format.specs.Glyphs.{peak, peak_part, region_part, has_region, header_values, header_bytes, data_bytes, shared_index, shared_part, point_sets, shared_points}
use Rattle.stores.specs.Parts.{shared_of, header_in, data_in}

pub shared_are : (vs : List Variation) → shared_part (shared_points (point_sets vs)) ≡ shared_of vs
unfolding shared_of
shared_are vs = refl

pub header_is : (ps : List (List ℤ)) (vs : List Variation) (v : Variation) → header_bytes ps (shared_points (point_sets vs)) v ≡ header_in ps vs v
unfolding header_in
header_is ps vs v = refl

pub data_is : (vs : List Variation) (v : Variation) → data_bytes (shared_points (point_sets vs)) v ≡ data_in vs v
unfolding data_in
data_is vs v = refl

length_words : (zs : List ℤ) → length (signed_words zs) ≡ 2 * length zs
length_words [] = refl
length_words (z ∷ zs) = omega (arith, length_words zs)

peak_most : (i : Option ℕ) (zs : List ℤ) → length (peak_part i zs) ≤ length zs
peak_most none zs = omega arith
peak_most (some i) zs = omega arith

region_most : (b : Bool) (ts : List Tent) → length (region_part b ts) ≤ 2 * length ts
region_most true ts =
    let l = length-append (map (λ t. t.start) ts) (map (λ t. t.end) ts) in
    let m = length-map ts (λ t. t.start) in
    let n = length-map ts (λ t. t.end) in
    omega arith
region_most false ts = omega arith

values_most : (i : Option ℕ) (v : Variation) → length (header_values i v) ≤ 3 * length v.tents
values_most i v =
    let l = length-append (peak_part i (peak v)) (region_part (has_region v) v.tents) in
    let p = peak_most i (peak v) in
    let r = region_most (has_region v) v.tents in
    let m = length-map v.tents (λ t. t.peak) in
    omega arith

-- four bytes, and at most a peak, a start and an end on each axis
pub header_most : (ps : List (List ℤ)) (vs : List Variation) (v : Variation) → length (header_in ps vs v) ≤ 4 + 6 * length v.tents
unfolding header_in
header_most ps vs v =
    let l = length_words (header_values (shared_index ps (peak v)) v) in
    let m = values_most (shared_index ps (peak v)) v in
    omega arith
