-- The parts of a table: the bytes of each glyph, the shared peaks, the slots and their offsets, and the head.
use Rattle.std.specs.Prelude.{ℕ, ◌+◌, ◌-◌, ◌%◌, Bool, true, false, cond, ◌&&◌, List, [], ◌∷◌, ◌++◌, map, length, ◌==◌}
use Rattle.format.specs.Bytes.{word, long, joined, signed_words}
use Rattle.format.specs.Account.{Glyph}
use Rattle.format.specs.Glyphs.{listed, peaks_seen, shared_peaks, glyph_bytes}
use Rattle.format.specs.Table.{variations_of, padded, offset_bytes, offsets_after}

-- the bytes of the glyph with this number
unfoldable pub glyph_at : List Glyph → ℕ → List ℕ
glyph_at gs n = glyph_bytes (peaks_seen gs) (variations_of n gs)

-- how many peaks are shared
unfoldable pub peak_count : List Glyph → ℕ
peak_count gs = length (shared_peaks (peaks_seen gs))

-- the bytes of the shared peaks
unfoldable pub peaks_data : List Glyph → List ℕ
peaks_data gs = joined (map signed_words (shared_peaks (peaks_seen gs)))

-- whether a glyph of this size is padded
abbrev pub is_padded : Bool → ℕ → Bool
is_padded short size = short && size % 2 == 1

-- the slots of the glyph n and of those after it, in the short or the long form
unfoldable pub slots_from : Bool → List Glyph → ℕ → List (List ℕ)
slots_from short gs n = map (padded short) (listed n (length gs - n) (glyph_at gs))

-- the bytes of these slots
unfoldable pub slots_data : List (List ℕ) → List ℕ
slots_data slots = joined slots

-- the bytes of the offsets of these slots, the first of which begins at o
unfoldable pub offsets_data : Bool → ℕ → List (List ℕ) → List ℕ
offsets_data short o slots = joined (map (offset_bytes short) (offsets_after o slots))

-- the size of an offset
abbrev pub width_of : Bool → ℕ
width_of true = 2
width_of false = 4

-- the first twenty bytes: axes, peaks, where the peaks begin, glyphs, the form, where the slots begin
abbrev pub head_of : ℕ → ℕ → ℕ → ℕ → Bool → ℕ → List ℕ
head_of axes peaks peaks_at glyphs short slots_at =
    (0 ∷ 1 ∷ 0 ∷ 0 ∷ []) ++ (word axes ++ (word peaks ++ (long peaks_at ++ (word glyphs ++ (word (cond short 0 1) ++ long slots_at)))))

-- the head of the table of these glyphs
unfoldable pub head_data : Bool → ℕ → List Glyph → List ℕ
head_data short a gs =
    let offsets = offsets_data short 0 (slots_from short gs 0) in
    head_of a (peak_count gs) (20 + length offsets) (length gs) short (20 + (length offsets + length (peaks_data gs)))
