-- The values of a tuple, and where it stands.
use Rattle.std.specs.Prelude.{◌≡◌, ℕ, ◌*◌, ◌<◌, ◌≤◌, List, [], ◌∷◌, length, take, drop, ℤ, pos, Some, None, Option as Maybe, slice_index_or}
use Rattle.format.specs.Bytes.{pair, signed16}
use Rattle.reader.specs.declared.table.Table.{Table}
use Rattle.reader.specs.declared.tuple.Tuple.{Tuple}
use Rattle.reader.specs.declared.tuple.Values.{Values}

-- the signed words in some bytes
abbrev pub words_in : List ℕ → List ℤ
words_in [] = []
words_in (a ∷ []) = []
words_in (a ∷ (b ∷ bs)) = signed16 (pair a b) ∷ words_in bs

-- the values of a tuple
abbrev pub values_of : Tuple → List ℤ
values_of t = words_in t.part.now

-- the values that are still to come
abbrev pub values_left : Values → List ℤ
values_left v = words_in v.left.now

-- the value with the number i, if there is one
abbrev pub ValueAt : List ℤ → ℕ → Maybe ℤ → Type 0
ValueAt vs i None = length vs ≤ i
ValueAt vs i (Some v) = (i < length vs) × (v ≡ slice_index_or vs i (pos 0))

-- a tuple has these values, and is the part of the table at its place
pub record Holds (t : Table) (u : Tuple) (vs : List ℤ) : Type 0 where
  pub values : values_of u ≡ vs
  pub stands : u.part.now ≡ take (2 * t.head.axes) (drop u.at t.bytes.now)
