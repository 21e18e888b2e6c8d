-- The account of the bytes: what a table says of one glyph, or the first fault in it.
use Rattle.std.specs.Prelude.{ℕ, zero, suc, ◌+◌, ◌-◌, ◌*◌, ◌%◌, Bool, true, false, cond, not, ◌&&◌, ◌||◌, List, [], ◌∷◌, ◌++◌, map, length, take, drop, ℤ, ◌==◌, nat_eq, nat_le, nat_lt, slice_index}
use Rattle.std.proofs.Math.Option.{Option, none, some}
use Rattle.format.specs.Bytes.{pair, signed16}
use Rattle.format.specs.Account.{Declined, declined, Condition, iff, first_of, implied_start, implied_end}
use Rattle.format.specs.Packed.{Points, every, only}
use Rattle.format.specs.Glyphs.{listed}
use Rattle.format.specs.Streams.{Read, and_then, fault_if, Rest, rest, read_words, read_longs, read_points, read_deltas, found, fault}

-- Headers: 21

pub record Header : Type 0 where
  pub size : ℕ
  pub index : ℕ  -- the index word
  pub embedded : List ℤ  -- the peak, if embedded
  pub starts : List ℤ  -- all starts and all ends, if a region is stored
  pub ends : List ℤ
  pub at : ℕ

abbrev pub is_embedded : ℕ → Bool
is_embedded w = nat_le 32768 w

abbrev pub is_regional : ℕ → Bool
is_regional w = nat_le 16384 (w % 32768)

abbrev pub is_private : ℕ → Bool
is_private w = nat_le 8192 (w % 16384)

abbrev pub peak_index : ℕ → ℕ
peak_index w = w % 4096

-- the three tuples of a header with a axes each, where they are stored
abbrev pub tuples : ℕ → ℕ → List ℕ → Option (List ℤ × List ℕ)
tuples a w bs = read_words signed16 (cond (is_embedded w) a 0 + cond (is_regional w) (2 * a) 0) bs

abbrev pub header_of : ℕ → ℕ → ℕ → ℕ → List ℤ → Header
header_of a at size w vs =
    let e = cond (is_embedded w) a 0 in
    record { size = size; index = w; embedded = take e vs; starts = take a (drop e vs); ends = drop a (drop e vs); at = at }

abbrev pub header_rest : ℕ → ℕ → ℕ → ℕ → Option (List ℤ × List ℕ) → Option (Rest Header)
header_rest a at size w none = none
header_rest a at size w (some r) = some (rest (header_of a at size w r.0) r.1 (at + (4 + 2 * length r.0)))

abbrev pub read_header : ℕ → List ℕ → ℕ → Option (Rest Header)
read_header a [] at = none
read_header a (s ∷ []) at = none
read_header a (s ∷ (s' ∷ [])) at = none
read_header a (s ∷ (s' ∷ (w ∷ []))) at = none
read_header a (s ∷ (s' ∷ (w ∷ (w' ∷ bs)))) at = header_rest a at (pair s s') (pair w w') (tuples a (pair w w') bs)

module _ (g : ℕ) where
  abbrev pub at_entry : ℕ → ℕ → ℕ → Declined
  at_entry i n at = declined n (some g) (some i) (some at)

  abbrev pub at_slot : ℕ → ℕ → Declined
  at_slot n at = declined n (some g) none (some at)

  abbrev pub header_then : ℕ → ℕ → Option (Rest Header) → (List ℕ → ℕ → Read (Rest (List Header))) → Read (Rest (List Header))
  header_then i at none more = fault (at_entry i 21 at)
  header_then i at (some h) more = and_then (more h.left h.place) (λ r. found (rest (h.value ∷ r.value) r.left r.place))

  -- n headers, the first of them that of entry i
  abbrev pub read_headers : ℕ → ℕ → ℕ → List ℕ → ℕ → Read (Rest (List Header))
  read_headers a i zero bs at = found (rest [] bs at)
  read_headers a i (suc n) bs at = header_then i at (read_header a bs at) (λ b p. read_headers a (suc i) n b p)

  -- no such shared peak, of so many
  abbrev pub peak_conditions : ℕ → ℕ → List Header → List Condition
  peak_conditions count i [] = []
  peak_conditions count i (h ∷ hs) = iff (not (is_embedded h.index) && nat_le count (peak_index h.index)) (at_entry i 21 h.at) ∷ peak_conditions count (suc i) hs

-- Entries

pub record Move : Type 0 where
  pub point : ℕ
  pub x : ℤ
  pub y : ℤ

pub record Entry : Type 0 where
  pub peak : List ℤ
  pub start : List ℤ
  pub end : List ℤ
  pub moves : List Move

-- all points are 0 to p - 1
abbrev pub points_of : ℕ → Points → List ℕ
points_of p every = listed 0 p (λ i. i)
points_of p (only qs) = qs

abbrev pub moves_of : List ℕ → List ℤ → List ℤ → List Move
moves_of [] xs ys = []
moves_of (q ∷ qs) [] ys = []
moves_of (q ∷ qs) (x ∷ xs) [] = []
moves_of (q ∷ qs) (x ∷ xs) (y ∷ ys) = record { point = q; x = x; y = y } ∷ moves_of qs xs ys

-- a checked table
pub record Checked : Type 0 where
  pub table : List ℕ
  pub axes : ℕ
  pub peak_count : ℕ
  pub peaks_at : ℕ
  pub glyph_count : ℕ
  pub is_long : Bool
  pub data_at : ℕ
  pub offsets : List ℕ

abbrev pub word_at : List ℕ → ℕ → ℕ
word_at bs i = pair (slice_index bs i) (slice_index bs (i + 1))

abbrev pub long_at : List ℕ → ℕ → ℕ
long_at bs i = 65536 * word_at bs i + word_at bs (i + 2)

abbrev pub value_or : {X Y : Type 0} → Y → (X → Y) → Option X → Y
value_or d f none = d
value_or d f (some x) = f x

abbrev pub shared_peak : Checked → ℕ → List ℤ
shared_peak c i = value_or [] (λ r. r.0) (read_words signed16 c.axes (drop (c.peaks_at + 2 * (c.axes * i)) c.table))

abbrev pub entry_peak : Checked → Header → List ℤ
entry_peak c h = cond (is_embedded h.index) h.embedded (shared_peak c (peak_index h.index))

abbrev pub entry_of : Checked → Header → ℕ → Points → List ℤ → List ℤ → Entry
entry_of c h p qs xs ys =
    let peak = entry_peak c h in
    record {
      peak = peak;
      start = cond (is_regional h.index) h.starts (map implied_start peak);
      end = cond (is_regional h.index) h.ends (map implied_end peak);
      moves = moves_of (points_of p qs) xs ys;
    }

abbrev pub nothing_left : {X : Type 0} → (ℕ → ℕ → Declined) → ℕ → X → List ℕ → Read X
nothing_left decline at x [] = found x
nothing_left decline at x (b ∷ bs) = fault (decline 24 at)

-- one entry from its data: points, x, y and 24
abbrev pub read_entry : Checked → (ℕ → ℕ → Declined) → ℕ → Points → Header → List ℕ → ℕ → Read Entry
read_entry c decline p shared h bs at =
    and_then (cond (is_private h.index) (read_points decline p bs at) (found (rest shared bs at))) λ q.
    let k = length (points_of p q.value) in
    and_then (read_deltas decline k q.left q.place) λ x.
    and_then (read_deltas decline k x.left x.place) λ y.
    nothing_left decline y.place (entry_of c h p q.value x.value y.value) y.left

-- the entries, each in its part of the data
abbrev pub read_entries : Checked → ℕ → ℕ → Points → ℕ → List Header → List ℕ → ℕ → Read (Rest (List Entry))
read_entries c g p shared i [] bs at = found (rest [] bs at)
read_entries c g p shared i (h ∷ hs) bs at =
    fault_if (nat_lt (length bs) h.size) (at_entry g i 21 h.at) (
    and_then (read_entry c (at_entry g i) p shared h (take h.size bs) at) λ e.
    and_then (read_entries c g p shared (suc i) hs (drop h.size bs) (at + h.size)) λ r.
    found (rest (e ∷ r.value) r.left r.place))

-- Slots

-- 25: after the last entry more than one byte, or one not 00
abbrev pub at_end : {X : Type 0} → ℕ → ℕ → X → List ℕ → Read X
at_end g at x [] = found x
at_end g at x (zero ∷ []) = found x
at_end g at x (suc b ∷ []) = fault (at_slot g 25 at)
at_end g at x (b ∷ (b' ∷ bs)) = fault (at_slot g 25 at)

abbrev pub unless : {X : Type 0} → Option Declined → Read X → Read X
unless none r = r
unless (some d) r = fault d

abbrev pub read_shared : ℕ → ℕ → Bool → List ℕ → ℕ → Read (Rest Points)
read_shared g p true bs at = read_points (at_slot g) p bs at
read_shared g p false bs at = found (rest every bs at)

-- a slot of four bytes or more: the count word, the data offset, and all its bytes
abbrev pub read_store : Checked → ℕ → ℕ → ℕ → ℕ → List ℕ → ℕ → Read (List Entry)
read_store c g p count offset slot at =
    and_then (read_headers g c.axes 0 (count % 4096) (drop 4 slot) (at + 4)) λ hs.
    unless (first_of (peak_conditions g c.peak_count 0 hs.value
    ++ (iff (nat_lt (at + offset) hs.place || nat_lt (length slot) offset) (at_slot g 21 (at + 2)) ∷ []))) (
    and_then (read_shared g p (nat_le 32768 count) (drop offset slot) (at + offset)) λ s.
    and_then (read_entries c g p s.value 0 hs.value s.left s.place) λ r.
    at_end g r.place r.value r.left)

abbrev pub read_bytes_of_slot : Checked → ℕ → ℕ → List ℕ → ℕ → Read (List Entry)
read_bytes_of_slot c g p [] at = found []
read_bytes_of_slot c g p (n ∷ []) at = fault (at_slot g 21 at)
read_bytes_of_slot c g p (n ∷ (n' ∷ [])) at = fault (at_slot g 21 (at + 2))
read_bytes_of_slot c g p (n ∷ (n' ∷ (o ∷ []))) at = fault (at_slot g 21 (at + 2))
read_bytes_of_slot c g p (n ∷ (n' ∷ (o ∷ (o' ∷ bs)))) at = read_store c g p (pair n n') (pair o o') (n ∷ (n' ∷ (o ∷ (o' ∷ bs)))) at

-- the offsets, in bytes: one more than glyphs
abbrev pub read_offsets : Bool → ℕ → List ℕ → Option (List ℕ × List ℕ)
read_offsets true n bs = read_longs (λ o. o) n bs
read_offsets false n bs = read_words (λ o. 2 * o) n bs

abbrev pub offset_of : Checked → ℕ → ℕ
offset_of c i = slice_index c.offsets i

abbrev pub slot_bytes : Checked → ℕ → List ℕ
slot_bytes c g = take (offset_of c (g + 1) - offset_of c g) (drop (c.data_at + offset_of c g) c.table)

abbrev pub read_slot : Checked → ℕ → ℕ → Read (List Entry)
read_slot c g p =
    fault_if (nat_le c.glyph_count g || nat_lt 32767 p) (declined 20 (some g) none none)
    (read_bytes_of_slot c g p (slot_bytes c g) (c.data_at + offset_of c g))

-- Tables

abbrev pub checked : List ℕ → Checked
checked bs =
    let is_long = nat_eq (word_at bs 14 % 2) 1 in
    record {
      table = bs;
      axes = word_at bs 4;
      peak_count = word_at bs 6;
      peaks_at = long_at bs 8;
      glyph_count = word_at bs 12;
      is_long = is_long;
      data_at = long_at bs 16;
      offsets = value_or [] (λ r. r.0) (read_offsets is_long (word_at bs 12 + 1) (drop 20 bs));
    }

abbrev pub offset_size : Checked → ℕ
offset_size c = cond c.is_long 4 2

abbrev pub falls : Checked → ℕ → Bool
falls c zero = false
falls c (suc i) = nat_lt (offset_of c (suc i)) (offset_of c i)

-- 19, at the offset i
abbrev pub offset_condition : Checked → ℕ → Condition
offset_condition c i =
    iff (falls c i || nat_lt (length c.table) (c.data_at + offset_of c i)) (declined 19 none none (some (20 + offset_size c * i)))

abbrev pub in_table : ℕ → ℕ → Declined
in_table n at = declined n none none (some at)

-- 16 to 19
abbrev pub table_conditions : List ℕ → List Condition
table_conditions bs =
    let c = checked bs in
    iff (nat_lt (length bs) 20) (declined 16 none none none)
    ∷ iff (not (long_at bs 0 == 65536)) (in_table 17 0)
    ∷ iff (nat_lt (length bs) (20 + offset_size c * (c.glyph_count + 1))) (in_table 18 12)
    ∷ iff (nat_lt (length bs) (c.peaks_at + 2 * (c.axes * c.peak_count))) (in_table 18 8)
    ∷ iff (nat_lt (length bs) c.data_at) (in_table 18 16)
    ∷ listed 0 (c.glyph_count + 1) (offset_condition c)

unfoldable pub read_glyph : List ℕ → ℕ → ℕ → Read (List Entry)
read_glyph bs g p = unless (first_of (table_conditions bs)) (read_slot (checked bs) g p)
