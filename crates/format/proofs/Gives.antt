-- An entry with a variation's header and data gives the variation back.
use Rattle.std.proofs.Common.{◌≡◌, ℕ, zero, suc, ◌<◌, Bool, true, false, cond, List, [], ◌∷◌, ◌++◌, map, length, take, drop, ℤ, refl, ◌∙◌, arith}
use mathlib.Core.Option.{Option, none, some}
use lib.ListN.{length-map}
use Rattle.std.proofs.lemmas.Bool.{and_parts, not-false}
use Rattle.format.specs.Bytes.{all, same_int}
use Rattle.format.specs.Account.{Tent, Variation, implied_start, implied_end}
use Rattle.format.specs.Glyphs.{peak, stored_points, stored_deltas, xs_of, ys_of, bounds_implied, has_region, peak_part, region_part, header_values, index_word}
use Rattle.format.specs.Reader.{Checked, header_of, entry_of, entry_peak, shared_peak, is_embedded, is_regional, peak_index}
use Rattle.format.specs.Promise.{GivesBack}
use Rattle.format.proofs.Headers.{embedded_back, regional_back, index_back, Index}
use Rattle.format.proofs.Alike.{same_values}
use Rattle.format.proofs.Finds.{stored_required, stored_given, stored_rise}

pub front_taken : {X : Type 0} (n : ℕ) (xs ys : List X) → length xs ≡ n → take n (xs ++ ys) ≡ xs
front_taken zero [] ys e = refl
front_taken zero (x ∷ xs) ys e = absurd (omega arith)
front_taken (suc n) [] ys e = absurd (omega arith)
front_taken (suc n) (x ∷ xs) ys e = rw (front_taken n xs ys (omega arith))

pub front_dropped : {X : Type 0} (n : ℕ) (xs ys : List X) → length xs ≡ n → drop n (xs ++ ys) ≡ ys
front_dropped zero [] ys e = refl
front_dropped zero (x ∷ xs) ys e = absurd (omega arith)
front_dropped (suc n) [] ys e = absurd (omega arith)
front_dropped (suc n) (x ∷ xs) ys e = front_dropped n xs ys (omega arith)

-- bounds that are not stored are those that the peaks imply
implied_starts : (ts : List Tent) → all bounds_implied ts ≡ true → map implied_start (map (λ t. t.peak) ts) ≡ map (λ t. t.start) ts
implied_starts [] h = refl
implied_starts (t ∷ ts) h =
    let p = and_parts (bounds_implied t) (all bounds_implied ts) h in
    let q = and_parts (same_int t.start (implied_start t.peak)) (same_int t.end (implied_end t.peak)) p.0 in
    rw (implied_starts ts p.1, same_values t.start (implied_start t.peak) q.0)

implied_ends : (ts : List Tent) → all bounds_implied ts ≡ true → map implied_end (map (λ t. t.peak) ts) ≡ map (λ t. t.end) ts
implied_ends [] h = refl
implied_ends (t ∷ ts) h =
    let p = and_parts (bounds_implied t) (all bounds_implied ts) h in
    let q = and_parts (same_int t.start (implied_start t.peak)) (same_int t.end (implied_end t.peak)) p.0 in
    rw (implied_ends ts p.1, same_values t.end (implied_end t.peak) q.1)

-- the peak with this index is there
abbrev pub There : Checked → Option ℕ → List ℤ → Type 0
There c none q = Unit {0}
There c (some i) q = (i < 4095) × (i < c.peak_count) × (shared_peak c i ≡ q)

pub there_index : (c : Checked) (i : Option ℕ) (q : List ℤ) → There c i q → Index i
there_index c none q h = tt
there_index c (some i) q h = h.0

-- what the index word says of the peak
abbrev Says : ℕ → Option ℕ → Type 0
Says w none = is_embedded w ≡ true
Says w (some i) = (is_embedded w ≡ false) × (peak_index w ≡ i)

says : (i : Option ℕ) (r s : Bool) → Index i → Says (index_word i r s) i
says none r s h = embedded_back none r s h
says (some i) r s h = (embedded_back (some i) r s h, index_back i r s h)

module _ (c : Checked) (v : Variation) (at size w : ℕ) (e : length v.tents ≡ c.axes) where
  pk : length (peak v) ≡ c.axes
  pk = length-map v.tents (λ t. t.peak) ∙ e

  peak_back : (i : Option ℕ) (zs : List ℤ) → Says w i → There c i (peak v) → entry_peak c (header_of c.axes at size w (peak_part i (peak v) ++ zs)) ≡ peak v
  peak_back none zs s h = rw s (front_taken c.axes (peak v) zs pk)
  peak_back (some i) zs s h = rw (s.0, s.1) h.2

  -- the values after the peak
  after_peak : (i : Option ℕ) (zs : List ℤ) → Says w i → drop (cond (is_embedded w) c.axes 0) (peak_part i (peak v) ++ zs) ≡ zs
  after_peak none zs s = rw s (front_dropped c.axes (peak v) zs pk)
  after_peak (some i) zs s = rw s.0

  bounds_back :
      (i : Option ℕ) (r : Bool) → has_region v ≡ r → is_regional w ≡ r → Says w i → There c i (peak v) →
      let h = header_of c.axes at size w (peak_part i (peak v) ++ region_part r v.tents) in
      (cond (is_regional w) h.starts (map implied_start (entry_peak c h)) ≡ map (λ t. t.start) v.tents)
      × (cond (is_regional w) h.ends (map implied_end (entry_peak c h)) ≡ map (λ t. t.end) v.tents)
  bounds_back i true y f s h =
      let ss = map (λ t. t.start) v.tents in
      let es = map (λ t. t.end) v.tents in
      let n : length ss ≡ c.axes = length-map v.tents (λ t. t.start) ∙ e in (
        rw (f, after_peak i (ss ++ es) s) (front_taken c.axes ss es n),
        rw (f, after_peak i (ss ++ es) s) (front_dropped c.axes ss es n),
      )
  bounds_back i false y f s h =
      let all-implied = not-false (all bounds_implied v.tents) y in (
        rw (f, peak_back i [] s h) (implied_starts v.tents all-implied),
        rw (f, peak_back i [] s h) (implied_ends v.tents all-implied),
      )

-- the entry of a variation's header, points and deltas
pub entry_gives_back :
    (c : Checked) (v : Variation) (at size : ℕ) (i : Option ℕ) (sh : Bool) → length v.tents ≡ c.axes → There c i (peak v) →
    GivesBack v
    (entry_of c (header_of c.axes at size (index_word i (has_region v) sh) (header_values i v))
    (length v.deltas) (stored_points v.deltas) (xs_of (stored_deltas v.deltas)) (ys_of (stored_deltas v.deltas)))
entry_gives_back c v at size i sh e h =
    let w = index_word i (has_region v) sh in
    let x = there_index c i (peak v) h in
    let s = says i (has_region v) sh x in
    let b = bounds_back c v at size w e i (has_region v) refl (regional_back i (has_region v) sh x) s h in
    record {
      same_peak = peak_back c v at size w e i (region_part (has_region v) v.tents) s h;
      same_start = b.0;
      same_end = b.1;
      finds_required = stored_required v.deltas;
      points_rise = stored_rise v.deltas;
      finds_as_given = stored_given v.deltas;
    }
