-- The bytes of a header, from the lists of its axes' values.
use Rattle.std.specs.Prelude.{ℕ, ◌*◌, ◌/◌, Bool, true, false, List, [], ◌++◌, length, take, drop, ℤ, Some, None, Option}
use Rattle.std.proofs.Math.Option.{none, some, Option as Maybe}
use Rattle.format.specs.Bytes.{word, signed_words}
use Rattle.format.specs.Glyphs.{index_word, peak_part}

-- the index of a shared peak as the definitions of the table have it
abbrev pub index_of : Option ℕ → Maybe ℕ
index_of None = none
index_of (Some i) = some i

-- all starts and all ends if a region is stored
abbrev pub region_of : Bool → List ℤ → List ℤ → List ℤ
region_of true starts ends = starts ++ ends
region_of false starts ends = []

-- the size of the data, the index word, and the tuples stored
abbrev pub header_of : ℕ → Option ℕ → Bool → Bool → List ℤ → List ℤ → List ℤ → List ℕ
header_of n i region shared peak starts ends =
    word n ++ (word (index_word (index_of i) region shared) ++ signed_words (peak_part (index_of i) peak ++ region_of region starts ends))

-- a third of the values of the axes: the peaks come first, then the starts, then the ends
abbrev pub third : ℕ → List ℤ → List ℤ
third k zs = let n = length zs / 3 in take n (drop (k * n) zs)
