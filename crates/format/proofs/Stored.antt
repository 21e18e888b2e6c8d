-- A variation's data is read back.
use Rattle.std.proofs.Common.{◌≡◌, ℕ, zero, suc, ◌+◌, ◌<◌, ◌≤◌, Bool, true, false, cond, not, ◌&&◌, ltb, leb, List, [], ◌∷◌, ◌++◌, length, ℤ, sym, refl, ap, ◌∙◌, subst, append-nil, arith}
use mathlib.Core.Option.{Option}
use lib.ListN.{length-map}
use Rattle.std.specs.List.{AllByRecursion}
use Rattle.std.proofs.lemmas.Bool.{lt-ltb, le-leb, and_from, or_parts}
use Rattle.format.specs.Bytes.{Short, passing}
use Rattle.format.specs.Account.{Delta, Variation, Declined, ShortDelta}
use Rattle.format.specs.Packed.{Points, every, only, packed_deltas, packed_points}
use Rattle.format.specs.Glyphs.{required_from, required_deltas, xs_of, ys_of, coordinates, stores_all, all_required, none_required, size_all, size_required, stored_points, stored_deltas, listed, is_shared, data_bytes}
use Rattle.format.specs.Streams.{rest, rises, read_points, read_deltas, found, and_then}
use Rattle.format.specs.Reader.{nothing_left, points_of, Checked, Header, is_private, entry_of, read_entry}
use Rattle.format.proofs.Runs.{packed_deltas_back}
use Rattle.format.proofs.Points.{Storable, packed_points_back}

required_rise : (n low p : ℕ) (ds : List Delta) → low ≤ n → n + length ds ≤ p → rises low p (required_from n ds) ≡ true
required_rise n low p [] h k = refl
required_rise n low p (d ∷ ds) h k = by d.required (required_rise (suc n) (suc n) p ds (omega arith) (omega arith)) (required_rise (suc n) low p ds (omega arith) (omega arith))
  where
    by : (b : Bool) → rises (suc n) p (required_from (suc n) ds) ≡ true → rises low p (required_from (suc n) ds) ≡ true →
        rises low p (cond b (n ∷ required_from (suc n) ds) (required_from (suc n) ds)) ≡ true
    by true i j = and_from (leb low n) (ltb n p && rises (suc n) p (required_from (suc n) ds)) (le-leb low n h) (and_from (ltb n p) (rises (suc n) p (required_from (suc n) ds)) (lt-ltb n p (omega arith)) i)
    by false i j = j

required_count : (n : ℕ) (ds : List Delta) → length (required_from n ds) ≡ length (required_deltas ds)
required_count n [] = refl
required_count n (d ∷ ds) = by d.required (required_count (suc n) ds)
  where
    by : (b : Bool) → length (required_from (suc n) ds) ≡ length (required_deltas ds) →
        length (cond b (n ∷ required_from (suc n) ds) (required_from (suc n) ds)) ≡ length (cond b (d ∷ required_deltas ds) (required_deltas ds))
    by true i = ap suc i
    by false i = i

required_most : (n : ℕ) (ds : List Delta) → length (required_from n ds) ≤ length ds
required_most n [] = omega arith
required_most n (d ∷ ds) = by d.required (required_most (suc n) ds)
  where
    by : (b : Bool) → length (required_from (suc n) ds) ≤ length ds → length (cond b (n ∷ required_from (suc n) ds) (required_from (suc n) ds)) ≤ suc (length ds)
    by true i = omega arith
    by false i = omega arith

some_required : (n : ℕ) (ds : List Delta) → none_required ds ≡ false → 0 < length (required_from n ds)
some_required n [] h = absurd (let z : ◌≡◌ {A = ℕ} 0 1 = cc in omega arith)
some_required n (d ∷ ds) h = by d.required h (some_required (suc n) ds)
  where
    by : (b : Bool) → (not b && none_required ds) ≡ false → (none_required ds ≡ false → 0 < length (required_from (suc n) ds)) →
        0 < length (cond b (n ∷ required_from (suc n) ds) (required_from (suc n) ds))
    by true g i = omega arith
    by false g i = i g

pub storable : (ds : List Delta) → length ds ≤ 32767 → none_required ds ≡ false → Storable (length ds) (required_from 0 ds)
storable ds h e =
    record {
      some_points = some_required 0 ds e;
      few = omega (arith, required_most 0 ds);
      rising = required_rise 0 0 (length ds) ds (omega arith) (omega arith);
    }

length_listed : {X : Type 0} (from n : ℕ) (f : ℕ → X) → length (listed from n f) ≡ n
length_listed from zero f = refl
length_listed from (suc n) f = ap suc (length_listed (suc from) n f)

-- the stored points and the stored deltas are as many
pub stored_count : (ds : List Delta) → length (points_of (length ds) (stored_points ds)) ≡ length (stored_deltas ds)
stored_count ds = by (stores_all ds)
  where
    by : (b : Bool) → length (points_of (length ds) (cond b every (only (required_from 0 ds)))) ≡ length (cond b ds (required_deltas ds))
    by true = length_listed 0 (length ds) (λ (i : ℕ). i)
    by false = required_count 0 ds

-- the points alone, before whatever follows
pub stored_points_back :
    (d : ℕ → ℕ → Declined) (ds : List Delta) (r : List ℕ) (at : ℕ) → length ds ≤ 32767 →
    read_points d (length ds) (packed_points (stored_points ds) ++ r) at ≡ found (rest (stored_points ds) r (at + length (packed_points (stored_points ds))))
stored_points_back d ds r at h = by (stores_all ds) refl
  where
    by : (b : Bool) → stores_all ds ≡ b →
        read_points d (length ds) (packed_points (cond b every (only (required_from 0 ds))) ++ r) at
        ≡ found (rest (cond b every (only (required_from 0 ds))) r (at + length (packed_points (cond b every (only (required_from 0 ds))))))
    by true e = refl
    by false e =
        packed_points_back d (length ds) (required_from 0 ds) r at (omega arith)
        (storable ds h (or_parts (none_required ds) (leb (size_all ds) (size_required ds)) (or_parts (all_required ds) _ e).1).0)

passing_all : (P : Delta → Type 0) (p : Delta → Bool) (ds : List Delta) → AllByRecursion P ds → AllByRecursion P (passing p ds)
passing_all P p [] h = tt
passing_all P p (d ∷ ds) h = by (p d) (passing_all P p ds h.1)
  where
    by : (b : Bool) → AllByRecursion P (passing p ds) → AllByRecursion P (cond b (d ∷ passing p ds) (passing p ds))
    by true i = (h.0, i)
    by false i = i

stored_short : (ds : List Delta) → AllByRecursion ShortDelta ds → AllByRecursion ShortDelta (stored_deltas ds)
stored_short ds h = by (stores_all ds)
  where
    by : (b : Bool) → AllByRecursion ShortDelta (cond b ds (required_deltas ds))
    by true = h
    by false = passing_all ShortDelta (λ d. d.required) ds h

short_xs : (ds : List Delta) → AllByRecursion ShortDelta ds → AllByRecursion Short (xs_of ds)
short_xs [] h = tt
short_xs (d ∷ ds) h = (h.0.0, short_xs ds h.1)

short_ys : (ds : List Delta) → AllByRecursion ShortDelta ds → AllByRecursion Short (ys_of ds)
short_ys [] h = tt
short_ys (d ∷ ds) h = (h.0.1, short_ys ds h.1)

coordinates_back :
    {X : Type 0} (d : ℕ → ℕ → Declined) (f : List ℤ → List ℤ → X) (ds : List Delta) (k at : ℕ) → AllByRecursion ShortDelta ds → k ≡ length ds →
    and_then (read_deltas d k (coordinates ds) at) (λ x. and_then (read_deltas d k x.left x.place) (λ y. nothing_left d y.place (f x.value y.value) y.left))
    ≡ found (f (xs_of ds) (ys_of ds))
coordinates_back d f ds k at h e =
    let kx : k ≡ length (xs_of ds) = e ∙ sym (length-map ds (λ d. d.x)) in
    let ky : k ≡ length (ys_of ds) = e ∙ sym (length-map ds (λ d. d.y)) in
    let bx = packed_deltas_back d (xs_of ds) (packed_deltas (ys_of ds)) at (short_xs ds h) in
    let by = packed_deltas_back d (ys_of ds) [] (at + length (packed_deltas (xs_of ds))) (short_ys ds h) in
    let bx' : read_deltas d k (coordinates ds) at ≡ found (rest (xs_of ds) (packed_deltas (ys_of ds)) (at + length (packed_deltas (xs_of ds)))) =
    subst (λ (n : ℕ). read_deltas d n (coordinates ds) at ≡ found (rest (xs_of ds) (packed_deltas (ys_of ds)) (at + length (packed_deltas (xs_of ds))))) (sym kx) bx in
    let by' : read_deltas d k (packed_deltas (ys_of ds)) (at + length (packed_deltas (xs_of ds))) ≡ found (rest (ys_of ds) [] ((at + length (packed_deltas (xs_of ds))) + length (packed_deltas (ys_of ds)))) =
    subst (λ (n : ℕ). read_deltas d n (packed_deltas (ys_of ds)) (at + length (packed_deltas (xs_of ds))) ≡ found (rest (ys_of ds) [] ((at + length (packed_deltas (xs_of ds))) + length (packed_deltas (ys_of ds))))) (sym ky)
    (subst (λ (bs : List ℕ). read_deltas d (length (ys_of ds)) bs (at + length (packed_deltas (xs_of ds))) ≡ found (rest (ys_of ds) [] ((at + length (packed_deltas (xs_of ds))) + length (packed_deltas (ys_of ds))))) (append-nil (packed_deltas (ys_of ds))) by) in
    rw (bx', by')

-- an entry, from a variation's data; the points are private, or those that are shared
pub entry_back :
    (c : Checked) (d : ℕ → ℕ → Declined) (s : Option Points) (shared : Points) (h : Header) (v : Variation) (at : ℕ) →
    length v.deltas ≤ 32767 → AllByRecursion ShortDelta v.deltas →
    is_private h.index ≡ not (is_shared s (stored_points v.deltas)) →
    (is_shared s (stored_points v.deltas) ≡ true → shared ≡ stored_points v.deltas) →
    read_entry c d (length v.deltas) shared h (data_bytes s v) at
    ≡ found (entry_of c h (length v.deltas) (stored_points v.deltas) (xs_of (stored_deltas v.deltas)) (ys_of (stored_deltas v.deltas)))
entry_back c d s shared h v at few short private same = by_test (is_shared s (stored_points v.deltas)) private same
  where
    ds : List Delta
    ds = v.deltas

    coords : (a : ℕ) →
        and_then (read_deltas d (length (points_of (length ds) (stored_points ds))) (coordinates (stored_deltas ds)) a)
        (λ x. and_then (read_deltas d (length (points_of (length ds) (stored_points ds))) x.left x.place)
        (λ y. nothing_left d y.place (entry_of c h (length ds) (stored_points ds) x.value y.value) y.left))
        ≡ found (entry_of c h (length ds) (stored_points ds) (xs_of (stored_deltas ds)) (ys_of (stored_deltas ds)))
    coords a = coordinates_back d (λ xs ys. entry_of c h (length ds) (stored_points ds) xs ys) (stored_deltas ds) (length (points_of (length ds) (stored_points ds))) a (stored_short ds short) (stored_count ds)

    by_test : (b : Bool) → is_private h.index ≡ not b → (b ≡ true → shared ≡ stored_points ds) →
        read_entry c d (length ds) shared h (cond b [] (packed_points (stored_points ds)) ++ coordinates (stored_deltas ds)) at
        ≡ found (entry_of c h (length ds) (stored_points ds) (xs_of (stored_deltas ds)) (ys_of (stored_deltas ds)))
    by_test true e f = rw (e, f refl) (coords at)
    by_test false e f = rw (e, stored_points_back d ds (coordinates (stored_deltas ds)) at few) (coords (at + length (packed_points (stored_points ds))))
