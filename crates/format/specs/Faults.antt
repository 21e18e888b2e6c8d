-- The worked table with one byte changed: each fault with its number, glyph, variation and place.
use Rattle.std.specs.Prelude.{◌≡◌, ℕ, List, [], ◌∷◌, take, slice_set}
use Rattle.std.proofs.Math.Option.{none, some}
use Rattle.format.specs.Account.{declined}
use Rattle.format.specs.Streams.{Read, fault, found}
use Rattle.format.specs.Reader.{Entry, read_glyph}
use Rattle.format.specs.Worked.{bytes_of_one}

-- with the byte at i changed to b
abbrev changed : ℕ → ℕ → Read (List Entry)
changed i b = read_glyph (slice_set bytes_of_one i b) 0 1

-- a fault of the table, of the slot, and of an entry of it
abbrev in_table : ℕ → ℕ → Read (List Entry)
in_table n at = fault (declined n none none (some at))

abbrev in_slot : ℕ → ℕ → Read (List Entry)
in_slot n at = fault (declined n (some 0) none (some at))

abbrev in_entry : ℕ → ℕ → ℕ → Read (List Entry)
in_entry i n at = fault (declined n (some 0) (some i) (some at))

-- the faults of twenty damaged tables; one of them has none
abbrev pub FaultsFound : Type 0
FaultsFound =
    (read_glyph (take 19 bytes_of_one) 0 1 ∷ changed 1 2 ∷ changed 13 100 ∷ changed 7 100 ∷ changed 19 41 ∷ changed 21 9 ∷ changed 23 9
    ∷ changed 23 0 ∷ changed 23 1 ∷ changed 25 3 ∷ changed 30 0x20 ∷ changed 27 9 ∷ changed 27 17 ∷ changed 29 7
    ∷ changed 34 1 ∷ changed 35 0xC0 ∷ changed 35 1 ∷ changed 29 4 ∷ changed 29 6 ∷ changed 39 1 ∷ [])
    ≡ (fault (declined 16 none none none) ∷ in_table 17 0 ∷ in_table 18 12 ∷ in_table 18 8 ∷ in_table 18 16 ∷ in_table 19 20 ∷ in_table 19 22
    ∷ found [] ∷ in_slot 21 26 ∷ in_entry 2 21 38 ∷ in_entry 0 21 28 ∷ in_slot 21 26 ∷ in_slot 21 26 ∷ in_entry 0 21 28
    ∷ in_entry 0 22 35 ∷ in_entry 0 23 35 ∷ in_entry 0 23 35 ∷ in_entry 0 23 37 ∷ in_entry 0 24 39 ∷ in_slot 25 39 ∷ [])
