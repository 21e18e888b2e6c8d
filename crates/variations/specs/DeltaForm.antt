-- How deltas are held in runs: the form of packed deltas, over the program's kinds.
use Rattle.std.specs.Prelude.{ℕ, Bool, true, false, cond, ◌&&◌, map, ℤ, pos, negsuc, Some, None, Option, int_le}
use Rattle.format.specs.Packed.{Kind, zeros, bytes, words, Run, value_bytes, packed_deltas}
use Rattle.format.specs.Packed.{cut as format_cut}
use Rattle.kinds.specs.declared.delta.DeltaKind.{DeltaKind}
use Rattle.kinds.specs.declared.delta.DeltaKind.TheVariants.{Zeros, Bytes, Words}
use Rattle.variations.specs.Forms.{Cut, Form}

abbrev pub meant : DeltaKind → Kind
meant Zeros = zeros
meant Bytes = bytes
meant Words = words

abbrev pub kind_for : Kind → DeltaKind
kind_for zeros = Zeros
kind_for bytes = Bytes
kind_for words = Words

abbrev pub is_zero_value : ℤ → Bool
is_zero_value z = int_le (pos 0) z && int_le z (pos 0)

abbrev pub is_byte_value : ℤ → Bool
is_byte_value z = int_le (negsuc 127) z && int_le z (pos 127)

abbrev pub kind_of : ℤ → DeltaKind
kind_of z = cond (is_zero_value z) Zeros (cond (is_byte_value z) Bytes Words)

-- what a kind can hold, of values that 16 bits hold
abbrev pub holds : DeltaKind → ℤ → Bool
holds Zeros z = is_zero_value z
holds Bytes z = is_byte_value z
holds Words z = true

abbrev pub zeros_follow : Option DeltaKind → Bool
zeros_follow None = false
zeros_follow (Some Zeros) = true
zeros_follow (Some Bytes) = false
zeros_follow (Some Words) = false

abbrev pub short_follows : Option DeltaKind → Bool
short_follows None = false
short_follows (Some Zeros) = true
short_follows (Some Bytes) = true
short_follows (Some Words) = false

-- does a run of the first kind stop before a value of the second kind, with what follows that value?
abbrev pub stops : DeltaKind → DeltaKind → Option DeltaKind → Bool
stops Zeros Zeros next = false
stops Zeros Bytes next = true
stops Zeros Words next = true
stops Bytes Zeros next = zeros_follow next
stops Bytes Bytes next = false
stops Bytes Words next = true
stops Words Zeros next = true
stops Words Bytes next = short_follows next
stops Words Words next = false

abbrev pub flag : DeltaKind → ℕ
flag Zeros = 128
flag Bytes = 0
flag Words = 64

-- the bytes of one value
abbrev pub width : DeltaKind → ℕ
width Zeros = 0
width Bytes = 1
width Words = 2

abbrev pub cut_of : Run → Cut DeltaKind ℤ
cut_of r = record { kind = kind_for r.of; values = r.values }

abbrev pub delta_form : Form DeltaKind ℤ
delta_form = record {
  kind_of = kind_of;
  stops = stops;
  holds = holds;
  flag = flag;
  width = width;
  value_bytes = λ k. value_bytes (meant k);
  cut = λ zs. map cut_of (format_cut zs);
  bytes = packed_deltas;
}
