-- The parts of a slot put together: count word, data offset, headers, shared points, data, pad.
use Rattle.std.proofs.Common.{◌≡◌, ℕ, zero, suc, ◌+◌, ◌%◌, ◌<◌, ◌≤◌, Bool, true, false, cond, not, ◌&&◌, ltb, leb, ◌⊎◌, List, [], ◌∷◌, ◌++◌, length, get_or, drop, refl, ap, subst, inl, inr, arith}
use mathlib.Core.Option.{Option, none, some}
use Rattle.std.specs.List.{AllByRecursion}
use Rattle.std.proofs.lemmas.Bool.{le-leb, lt-leb, le-ltb}
use Rattle.format.specs.Account.{Variation, Declined}
use Rattle.format.specs.Packed.{Points, every, packed_points}
use Rattle.format.specs.Glyphs.{stored_points, point_sets, shared_points, set_count, same_set, set_score, shared_part, shared_flag}
use Rattle.format.specs.Ranked.{ranked}
use Rattle.format.specs.Streams.{rest, read_points, found}
use Rattle.format.specs.Reader.{Checked, Header, Entry, is_embedded, peak_index, read_headers, read_shared, read_entries, at_end, read_store, at_slot}
use Rattle.format.proofs.Stored.{stored_points_back}
use Rattle.format.proofs.EntriesBack.{no_peak_amiss}
use Rattle.format.proofs.EntryBack.{shared_or_every}

-- the shared points of a glyph are read back
abbrev pub PointsBack : ℕ → Points → Type 0
PointsBack p q = (d : ℕ → ℕ → Declined) (r : List ℕ) (at : ℕ) → read_points d p (packed_points q ++ r) at ≡ found (rest q r (at + length (packed_points q)))

abbrev pub SharedBack : ℕ → Option Points → Type 0
SharedBack p none = Unit {0}
SharedBack p (some q) = PointsBack p q

set_back : (p : ℕ) (vs : List Variation) (b : ℕ) → p ≤ 32767 → AllByRecursion (λ v. length v.deltas ≡ p) vs → PointsBack p (get_or (point_sets vs) b every)
set_back p [] b few h d r at = refl
set_back p (v ∷ vs) zero few h d r at =
    let q = stored_points v.deltas in
    subst (λ (n : ℕ). read_points d n (packed_points q ++ r) at ≡ found (rest q r (at + length (packed_points q)))) h.0 (stored_points_back d v.deltas r at (omega (arith, h.0)))
set_back p (v ∷ vs) (suc b) few h d r at = set_back p vs b few h.1 d r at

pub shared_set_back : (p : ℕ) (vs : List Variation) → p ≤ 32767 → AllByRecursion (λ v. length v.deltas ≡ p) vs → SharedBack p (shared_points (point_sets vs))
shared_set_back p vs few h = by (ltb 1 (set_count (point_sets vs) best))
  where
    best : ℕ
    best = ranked (length (point_sets vs)) (same_set (point_sets vs)) (set_score (point_sets vs)) 0

    by : (b : Bool) → SharedBack p (cond b (some (get_or (point_sets vs) best every)) none)
    by true = set_back p vs best few h
    by false = tt

abbrev pub is_some : Option Points → Bool
is_some none = false
is_some (some q) = true

pub shared_back : (g p : ℕ) (s : Option Points) (r : List ℕ) (at : ℕ) → SharedBack p s → read_shared g p (is_some s) (shared_part s ++ r) at ≡ found (rest (shared_or_every s) r (at + length (shared_part s)))
shared_back g p none r at h = ap (λ (n : ℕ). found (rest every r n)) (omega arith)
shared_back g p (some q) r at h = h (at_slot g) r at

-- the count word
pub count_fits : (s : Option Points) (n : ℕ) → n ≤ 4095 → shared_flag s + n < 65536
count_fits none n h = omega arith
count_fits (some q) n h = omega arith

pub count_back : (s : Option Points) (n : ℕ) → n ≤ 4095 → (shared_flag s + n) % 4096 ≡ n
count_back none n h = omega arith
count_back (some q) n h = omega arith

pub flag_back : (s : Option Points) (n : ℕ) → n ≤ 4095 → leb 32768 (shared_flag s + n) ≡ is_some s
flag_back none n h = lt-leb 32768 (0 + n) (omega arith)
flag_back (some q) n h = le-leb 32768 (32768 + n) (omega arith)

-- the bytes after the last entry
abbrev pub Pad : List ℕ → Type 0
Pad pad = (pad ≡ []) ⊎ (pad ≡ 0 ∷ [])

pad_passes : {X : Type 0} (g at : ℕ) (x : X) (pad : List ℕ) → Pad pad → at_end g at x pad ≡ found x
pad_passes g at x pad (inl e) = rw e
pad_passes g at x pad (inr e) = rw e

-- each part read back, the whole is
pub store_back :
    (c : Checked) (g p count offset : ℕ) (slot : List ℕ) (at k : ℕ) (b : Bool) (hs : List Header) (hb sb db pad : List ℕ) (sh : Points) (es : List Entry) →
    count % 4096 ≡ k → leb 32768 count ≡ b → offset ≡ 4 + length hb → offset ≤ length slot →
    drop 4 slot ≡ hb ++ (sb ++ (db ++ pad)) → drop offset slot ≡ sb ++ (db ++ pad) →
    read_headers g c.axes 0 k (hb ++ (sb ++ (db ++ pad))) (at + 4) ≡ found (rest hs (sb ++ (db ++ pad)) ((at + 4) + length hb)) →
    AllByRecursion (λ h. (not (is_embedded h.index) && leb c.peak_count (peak_index h.index)) ≡ false) hs →
    read_shared g p b (sb ++ (db ++ pad)) (at + offset) ≡ found (rest sh (db ++ pad) ((at + offset) + length sb)) →
    read_entries c g p sh 0 hs (db ++ pad) ((at + offset) + length sb) ≡ found (rest es pad (((at + offset) + length sb) + length db)) →
    Pad pad →
    read_store c g p count offset slot at ≡ found es
store_back c g p count offset slot at k b hs hb sb db pad sh es n f o le after-words after-headers headers peaks shared entries pads =
    rw (
      n,
      after-words,
      headers,
      no_peak_amiss g c.peak_count 0 hs _ peaks,
      le-ltb (at + offset) ((at + 4) + length hb) (omega arith),
      le-ltb (length slot) offset le,
      f,
      after-headers,
      shared,
      entries,
    )
    (pad_passes g (((at + offset) + length sb) + length db) es pad pads)
