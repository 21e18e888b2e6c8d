-- What a table's head and offsets say.
use Rattle.std.specs.Prelude.{◌≡◌, ℕ, ◌+◌, ◌*◌, ◌%◌, ◌≤◌, Bool, cond, not, List, [], ◌∷◌, length, drop, Some, None, Ok, Err, Option as Maybe, Result, ◌==◌, nat_lt}
use Rattle.std.proofs.Math.Option.{Option, none, some}
use Rattle.format.specs.Account.{Declined, declined, Condition, iff, first_of}
use Rattle.format.specs.Glyphs.{listed}
use Rattle.format.specs.Reader.{Checked, word_at, long_at, value_or, read_offsets, offset_condition, in_table, table_conditions}
use Rattle.reader.specs.declared.table.Head.{Head}
use Rattle.reader.specs.declared.table.Table.{Table}
use Rattle.reader.specs.declared.fault.TableFault.{TableFault}
use Rattle.reader.specs.Faults.{table_declined}

-- the flags say that offsets are long
abbrev pub says_long : List ℕ → Bool
says_long bs = word_at bs 14 % 2 == 1

-- the head of a table
abbrev pub head_of : List ℕ → Head
head_of bs = record { axes = word_at bs 4; peaks = word_at bs 6; peaks_at = long_at bs 8; glyphs = word_at bs 12; long = says_long bs; data_at = long_at bs 16 }

-- the conditions before those on offsets
abbrev pub head_conditions : List ℕ → List Condition
head_conditions bs =
    iff (nat_lt (length bs) 20) (declined 16 none none none)
    ∷ iff (not (long_at bs 0 == 65536)) (in_table 17 0)
    ∷ iff (nat_lt (length bs) (20 + cond (says_long bs) 4 2 * (word_at bs 12 + 1))) (in_table 18 12)
    ∷ iff (nat_lt (length bs) (long_at bs 8 + 2 * (word_at bs 4 * word_at bs 6))) (in_table 18 8)
    ∷ iff (nat_lt (length bs) (long_at bs 16)) (in_table 18 16)
    ∷ []

-- none of them applies and the offsets lie in the table, or the first that applies is this fault
abbrev pub HeadChecked : List ℕ → Result Head TableFault → Type 0
HeadChecked bs (Ok h) = (h ≡ head_of bs) × (first_of (head_conditions bs) ≡ none) × (20 + cond (says_long bs) 4 2 * (word_at bs 12 + 1) ≤ length bs)
HeadChecked bs (Err f) = first_of (head_conditions bs) ≡ some (table_declined f)

-- the offset with the number i, at its place
abbrev pub offset_in : List ℕ → Bool → ℕ → ℕ
offset_in bs long i = cond long (long_at bs (20 + 4 * i)) (2 * word_at bs (20 + 2 * i))

-- the offsets of n glyphs
abbrev pub offset_list : List ℕ → Bool → ℕ → List ℕ
offset_list bs long n = value_or [] (λ r. r.0) (read_offsets long (n + 1) (drop 20 bs))

-- the fault of the offset that was found wrong
abbrev pub bad_answer : Bool → Maybe ℕ → Option Declined
bad_answer long None = none
bad_answer long (Some i) = some (in_table 19 (20 + cond long 4 2 * i))

-- the first condition on the offsets of n glyphs that applies
abbrev pub FirstBad : List ℕ → Bool → ℕ → ℕ → Maybe ℕ → Type 0
FirstBad bs long n start r =
    (c : Checked) → c.table ≡ bs → c.data_at ≡ start → c.is_long ≡ long → c.offsets ≡ offset_list bs long n →
    first_of (listed 0 (n + 1) (offset_condition c)) ≡ bad_answer long r

-- a table that was checked: no condition applies to its bytes, and its head is theirs
pub record Sound (t : Table) : Type 0 where
  pub no_fault : first_of (table_conditions t.bytes.now) ≡ none
  pub its_head : t.head ≡ head_of t.bytes.now

-- the bytes make a sound table, or the first condition that applies is this fault
abbrev pub TableChecked : List ℕ → Result Table TableFault → Type 0
TableChecked bs (Ok t) = (t.bytes.now ≡ bs) × Sound t
TableChecked bs (Err f) = first_of (table_conditions bs) ≡ some (table_declined f)
