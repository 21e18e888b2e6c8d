-- What each call answers: which refusal, and what was met before it; what a granted call has met; and which form a table has.
use Rattle.std.specs.Prelude.{◌≡◌, ℕ, ◌+◌, ◌*◌, ◌/◌, ◌<◌, ◌≤◌, true, false, ◌≢◌, ◌⊎◌, ◌↔◌, List, [], ◌∷◌, ◌++◌, map, length, slice_index}
use Rattle.std.proofs.Math.Option.{Option, none, some}
use Rattle.std.specs.List.{AllByRecursion}
use Rattle.format.specs.Bytes.{joined, signed_words, total}
use Rattle.format.specs.Account.{Delta, Variation, Glyph, Cells, Account, Given, Call, glyph, variation, Declined, set, Condition, first_of, axis_count_conditions, most_axes, last, begun, refusal, opened, after}
use Rattle.format.specs.Glyphs.{peaks_seen, shared_peaks, shared_count, point_sets, shared_points, data_bytes, headers_bytes}
use Rattle.format.specs.Table.{variations_of, glyphs_bytes, even_total, numbers_full, variation_count, table_bytes, granted, refused, compile_answer}
use Rattle.format.specs.Reader.{word_at}

-- A list of conditions

-- d is the answer of the first condition that applies
pub record AnsweredFirst (cs : List Condition) (d : Declined) : Type 0 where
  pub before : List Condition
  pub condition : Condition
  pub later : List Condition
  pub splits : cs ≡ before ++ (condition ∷ later)
  pub none_before : AllByRecursion (λ c. c.applies ≡ false) before
  pub applies_here : condition.applies ≡ true
  pub answers : condition.answer ≡ d

-- the answer is that of the first condition that applies, and of no other
abbrev pub FirstThatApplies : Type 0
FirstThatApplies = (cs : List Condition) (d : Declined) → first_of cs ≡ some d ↔ AnsweredFirst cs d

-- nothing is declined exactly where no condition applies
abbrev pub NoneApplies : Type 0
NoneApplies = (cs : List Condition) → first_of cs ≡ none ↔ AllByRecursion (λ c. c.applies ≡ false) cs

-- Refused calls. Each type has a constructor for each number: what applies, and that nothing before it does.

-- declined by the set, at no place of a table: the number, and the glyph and the variation that are named
abbrev pub by_set : ℕ → Option ℕ → Option ℕ → Declined
by_set n g v = record { number = n; layer = set; glyph = g; variation = v; place = none }

-- an axis count names neither
pub data AxisCountRefused (n : ℕ) : Declined → Type 0 where
  many_axes : most_axes < n → AxisCountRefused n (by_set 1 none none)

-- a glyph call names the number handed in
pub data GlyphRefused (A : Account) (n : ℕ) : Declined → Type 0 where
  large_number : 65534 < n → GlyphRefused A n (by_set 2 (some n) none)
  begun_before : n ≤ 65534 → begun n A.glyphs ≡ true → GlyphRefused A n (by_set 3 (some n) none)
  no_glyph_cell : n ≤ 65534 → begun n A.glyphs ≡ false → A.free.glyph < 1 → GlyphRefused A n (by_set 9 (some n) none)

-- as many deltas as the first variation has, if there is one
abbrev pub AsMany : List Variation → ℕ → Type 0
AsMany [] n = Unit {0}
AsMany (v ∷ vs) n = length v.deltas ≡ n

-- why a variation is not added to the glyph g: 5 to 9
pub data NotAdded (A : Account) (g : Glyph) (ts : List Given) (ds : List Delta) : ℕ → Type 0 where
  other_tents : length ts ≢ A.axes → NotAdded A g ts ds 5
  many_deltas : length ts ≡ A.axes → 32767 < length ds → NotAdded A g ts ds 6
  other_deltas : length ts ≡ A.axes → length ds ≤ 32767 → ¬ AsMany g.variations (length ds) → NotAdded A g ts ds 7
  many_variations : length ts ≡ A.axes → length ds ≤ 32767 → AsMany g.variations (length ds) → 4095 ≤ length g.variations → NotAdded A g ts ds 8
  few_cells : length ts ≡ A.axes → length ds ≤ 32767 → AsMany g.variations (length ds) → length g.variations < 4095 →
      (A.free.variation < 1) ⊎ ((A.free.axis < 3 * A.axes) ⊎ (A.free.delta < length ds)) → NotAdded A g ts ds 9

-- a variation call names the glyph begun last, and the number that the variation would have had
pub data VariationRefused (A : Account) (ts : List Given) (ds : List Delta) : Declined → Type 0 where
  no_glyph : A.glyphs ≡ [] → VariationRefused A ts ds (by_set 4 none none)
  not_added : (g : Glyph) (n : ℕ) → last A.glyphs ≡ some g → NotAdded A g ts ds n →
      VariationRefused A ts ds (by_set n (some g.number) (some (length g.variations)))

-- The sizes of the glyph numbered n

-- the size of the data of its variation i
abbrev pub data_size : List Glyph → ℕ → ℕ → ℕ
data_size gs n i =
    let vs = variations_of n gs in
    slice_index (map (λ v. length (data_bytes (shared_points (point_sets vs)) v)) vs) i

-- the size of all that stands before the data
abbrev pub headers_size : List Glyph → ℕ → ℕ
headers_size gs n =
    let vs = variations_of n gs in
    4 + length (headers_bytes (peaks_seen gs) (shared_points (point_sets vs)) vs)

-- each of its data fits a word
abbrev pub DataFit : List Glyph → ℕ → Type 0
DataFit gs n = (i : ℕ) → i < length (variations_of n gs) → data_size gs n i ≤ 65535

-- all its sizes fit a word
abbrev pub SizesFit : List Glyph → ℕ → Type 0
SizesFit gs n = DataFit gs n × (headers_size gs n ≤ 65535)

-- the numbers are full, and the count cells are enough
abbrev pub Countable : List Glyph → ℕ → Type 0
Countable gs cells = (numbers_full gs ≡ true) × (variation_count gs ≤ cells)

-- why a set is not compiled: 12 and 13 name what is too long, the others name nothing
pub data NotCompiled (a : ℕ) (gs : List Glyph) (cells allowance : ℕ) : Declined → Type 0 where
  missing_numbers : numbers_full gs ≡ false → NotCompiled a gs cells allowance (by_set 10 none none)
  few_count_cells : numbers_full gs ≡ true → cells < variation_count gs → NotCompiled a gs cells allowance (by_set 11 none none)
  long_data : (n i : ℕ) → Countable gs cells → n < length gs → ((m : ℕ) → m < n → SizesFit gs m) →
      i < length (variations_of n gs) → ((j : ℕ) → j < i → data_size gs n j ≤ 65535) → 65535 < data_size gs n i →
      NotCompiled a gs cells allowance (by_set 12 (some n) (some i))
  long_headers : (n : ℕ) → Countable gs cells → n < length gs → ((m : ℕ) → m < n → SizesFit gs m) →
      DataFit gs n → 65535 < headers_size gs n →
      NotCompiled a gs cells allowance (by_set 13 (some n) none)
  long_glyphs : Countable gs cells → ((n : ℕ) → n < length gs → SizesFit gs n) →
      67108864 < even_total (glyphs_bytes gs) → NotCompiled a gs cells allowance (by_set 14 none none)
  long_table : Countable gs cells → ((n : ℕ) → n < length gs → SizesFit gs n) → even_total (glyphs_bytes gs) ≤ 67108864 →
      allowance < length (table_bytes a gs) → NotCompiled a gs cells allowance (by_set 15 none none)

-- a call is refused exactly for these reasons, with this answer
pub record NumbersOfACall : Type 0 where
  pub of_axis_count : (n : ℕ) (d : Declined) → first_of (axis_count_conditions n) ≡ some d ↔ AxisCountRefused n d
  pub of_glyph : (A : Account) (n : ℕ) (d : Declined) → refusal A (glyph n) ≡ some d ↔ GlyphRefused A n d
  pub of_variation : (A : Account) (ts : List Given) (ds : List Delta) (d : Declined) → refusal A (variation ts ds) ≡ some d ↔ VariationRefused A ts ds d
  pub of_compile : (A : Account) (cells allowance : ℕ) (d : Declined) →
      compile_answer A cells allowance ≡ refused d ↔ NotCompiled A.axes A.glyphs cells allowance d

-- Granted calls

-- a glyph call meets these
pub record GlyphGranted (A : Account) (n : ℕ) : Type 0 where
  pub number_fits : n ≤ 65534
  pub not_begun : begun n A.glyphs ≡ false
  pub cell_free : 1 ≤ A.free.glyph

-- a variation call meets these
pub record VariationGranted (A : Account) (ts : List Given) (ds : List Delta) : Type 0 where
  pub begun_last : Glyph
  pub is_last : last A.glyphs ≡ some begun_last
  pub a_tent_for_each_axis : length ts ≡ A.axes
  pub deltas_fit : length ds ≤ 32767
  pub deltas_as_many : AsMany begun_last.variations (length ds)
  pub variations_fit : length begun_last.variations < 4095
  pub variation_cell_free : 1 ≤ A.free.variation
  pub axis_cells_free : 3 * A.axes ≤ A.free.axis
  pub delta_cells_free : length ds ≤ A.free.delta

-- a compile meets these, and answers n
pub record CompileGranted (a : ℕ) (gs : List Glyph) (cells allowance n : ℕ) : Type 0 where
  pub countable : Countable gs cells
  pub sizes_fit : (i : ℕ) → i < length gs → SizesFit gs i
  pub glyphs_fit : even_total (glyphs_bytes gs) ≤ 67108864
  pub table_fits : length (table_bytes a gs) ≤ allowance
  pub whole_table : n ≡ length (table_bytes a gs)

-- a call is granted exactly where it meets every bound
pub record GrantedMetNone : Type 0 where
  pub of_axis_count : (n : ℕ) → first_of (axis_count_conditions n) ≡ none ↔ n ≤ most_axes
  pub of_glyph : (A : Account) (n : ℕ) → refusal A (glyph n) ≡ none ↔ GlyphGranted A n
  pub of_variation : (A : Account) (ts : List Given) (ds : List Delta) → refusal A (variation ts ds) ≡ none ↔ VariationGranted A ts ds
  pub of_compile : (A : Account) (cells allowance n : ℕ) →
      compile_answer A cells allowance ≡ granted n ↔ CompileGranted A.axes A.glyphs cells allowance n

-- Short and long tables

-- the bytes of the shared peaks
abbrev pub peaks_bytes : List Glyph → List ℕ
peaks_bytes gs = joined (map signed_words (shared_peaks (peaks_seen gs)))

-- a table of this form: its flags word, the size of an offset, and the size of all slots
pub record Formed (a : ℕ) (gs : List Glyph) (flags offset slots : ℕ) : Type 0 where
  pub flags_word : word_at (table_bytes a gs) 14 ≡ flags
  pub size : length (table_bytes a gs) ≡ 20 + offset * (length gs + 1) + length (peaks_bytes gs) + slots

-- short while half the total of the glyphs' even-rounded sizes fits a word; only then are slots padded
pub record ShortOrLong : Type 0 where
  pub short_form : (a : ℕ) (gs : List Glyph) → even_total (glyphs_bytes gs) / 2 ≤ 65535 → Formed a gs 0 2 (even_total (glyphs_bytes gs))
  pub long_form : (a : ℕ) (gs : List Glyph) → 65535 < even_total (glyphs_bytes gs) / 2 → Formed a gs 1 4 (total (map length (glyphs_bytes gs)))
  -- in every set that calls lead to, a shared peak has two bytes for each axis
  pub peaks_size : (a : ℕ) (free : Cells) (calls : List Call) →
      let gs = (after (opened a free) calls).glyphs in
      length (peaks_bytes gs) ≡ 2 * (a * shared_count (peaks_seen gs))
