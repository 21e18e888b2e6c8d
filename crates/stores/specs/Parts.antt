-- The parts of a glyph's bytes: what its variations share, and the header and the data of each.
use Rattle.std.specs.Prelude.{ℕ, ◌+◌, List, [], ◌++◌, map, length, ℤ, slice_index_or}
use Rattle.format.specs.Account.{Variation}
use Rattle.format.specs.Bytes.{word, joined}
use Rattle.format.specs.Glyphs.{point_sets, shared_points, shared_part, shared_flag, header_bytes, data_bytes}

-- the variation with this number
abbrev pub variation_at : List Variation → ℕ → Variation
variation_at vs j = slice_index_or vs j (record { tents = []; deltas = [] })

-- the points that the variations share, packed; nothing where they share none
unfoldable pub shared_of : List Variation → List ℕ
shared_of vs = shared_part (shared_points (point_sets vs))

-- the flag that says whether points are shared
unfoldable pub flag_of : List Variation → ℕ
flag_of vs = shared_flag (shared_points (point_sets vs))

-- the header of one of the variations
unfoldable pub header_in : List (List ℤ) → List Variation → Variation → List ℕ
header_in ps vs v = header_bytes ps (shared_points (point_sets vs)) v

-- the data of one of the variations
unfoldable pub data_in : List Variation → Variation → List ℕ
data_in vs v = data_bytes (shared_points (point_sets vs)) v

-- the headers, one after the other
abbrev pub all_headers : List (List ℤ) → List Variation → List ℕ
all_headers ps vs = joined (map (header_in ps vs) vs)

-- the data, variation by variation
abbrev pub all_data : List Variation → List ℕ
all_data vs = joined (map (data_in vs) vs)

-- the number of variations with the flag, then where the headers end
abbrev pub first_words : List (List ℤ) → List Variation → List ℕ
first_words ps vs = word (flag_of vs + length vs) ++ word (4 + length (all_headers ps vs))
