-- How gaps are held in runs: the form of packed points, over the program's kinds.
use Rattle.std.specs.Prelude.{ℕ, Bool, true, false, map, Option}
use Rattle.format.specs.Packed.{is_wide, same_class, GapRun, gap_bytes}
use Rattle.kinds.specs.declared.point.PointKind.{PointKind}
use Rattle.kinds.specs.declared.point.PointKind.TheVariants.{Bytes, Words}
use Rattle.variations.specs.Forms.{Cut, Form}
use Rattle.variations.specs.Gaps.{cut_gaps, gap_runs_bytes}

-- does a kind take words?
abbrev pub meant : PointKind → Bool
meant Bytes = false
meant Words = true

abbrev pub kind_for : Bool → PointKind
kind_for false = Bytes
kind_for true = Words

-- a run stops where gaps of the other kind follow
abbrev pub stops : PointKind → PointKind → Option PointKind → Bool
stops Bytes Bytes next = false
stops Bytes Words next = true
stops Words Bytes next = true
stops Words Words next = false

abbrev pub flag : PointKind → ℕ
flag Bytes = 0
flag Words = 128

-- the bytes of one gap
abbrev pub width : PointKind → ℕ
width Bytes = 1
width Words = 2

abbrev pub cut_of : GapRun → Cut PointKind ℕ
cut_of r = record { kind = kind_for r.wide; values = r.gaps }

abbrev pub gap_form : Form PointKind ℕ
gap_form = record {
  kind_of = λ g. kind_for (is_wide g);
  stops = stops;
  holds = λ k. same_class (meant k);
  flag = flag;
  width = width;
  value_bytes = λ k. gap_bytes (meant k);
  cut = λ gs. map cut_of (cut_gaps gs);
  bytes = gap_runs_bytes;
}
