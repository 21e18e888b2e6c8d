-- What compile answers, hands over, and leaves in the count cells.
use Rattle.std.specs.Prelude.{◌≡◌, ℕ, ◌<◌, ◌≤◌, cond, not, ◌||◌, List, length, replicate, Ok, Err, Result, nat_lt}
use Rattle.format.specs.Account.{Glyph, Meaning}
use Rattle.format.specs.Table.{Answer, granted, refused, numbers_full, variation_count, even_total, glyphs_bytes, table_bytes}
use Rattle.format.specs.Answers.{Countable, SizesFit, NotCompiled}
use Rattle.write.specs.Sinks.{Standing, Step, Handed}
use Rattle.counts.specs.declared.cells.CountCell.{CountCell}
use Rattle.counts.specs.Cells.{blank}
use Rattle.sets.specs.declared.refusal.Refusal.{Refusal}
use Rattle.sets.specs.Refusals.{declined_of}

-- the meaning of a sink that stands at a
abbrev pub meaning_of : Step → Standing → Meaning
meaning_of step a = record { allowance = a.allowance; state = a.state; step = step }

-- the answer of a compile: the table's length, or why it is refused
abbrev pub compiled_of : Result ℕ Refusal → Answer
compiled_of (Ok n) = granted n
compiled_of (Err e) = refused (declined_of e)

-- the count cells afterwards: as they were where the numbers are not full or the cells too few, else zeros
abbrev pub cells_after : List Glyph → List CountCell → List CountCell
cells_after gs cs = cond (not (numbers_full gs) || nat_lt (length cs) (variation_count gs)) cs (replicate (length cs) blank)

-- a granted table was handed over whole; a refusal left the sink as it was
abbrev pub SinkLeft : Step → List ℕ → Standing → Standing → Result ℕ Refusal → Type 0
SinkLeft step table a b (Ok n) = Handed step table a b (Ok tt)
SinkLeft step table a b (Err e) = b ≡ a

-- whether the sizes of all glyphs fit, or which of 12 and 13 comes first
abbrev pub SizesAnswered : List Glyph → Result (Unit {0}) Refusal → Type 0
SizesAnswered gs (Ok u) = (n : ℕ) → n < length gs → SizesFit gs n
SizesAnswered gs (Err e) = (a cells allowance : ℕ) → Countable gs cells → NotCompiled a gs cells allowance (declined_of e)

-- what writing a counted set comes to: the table's length with the table handed over, or one of 12 to 15 with nothing handed over
abbrev pub WrittenSo : Step → ℕ → List Glyph → Standing → Standing → Result ℕ Refusal → Type 0
WrittenSo step a gs s t (Ok n) =
    (n ≡ length (table_bytes a gs)) × ((m : ℕ) → m < length gs → SizesFit gs m) × (even_total (glyphs_bytes gs) ≤ 67108864)
    × Handed step (table_bytes a gs) s t (Ok tt)
WrittenSo step a gs s t (Err e) = (t ≡ s) × ((cells : ℕ) → Countable gs cells → NotCompiled a gs cells s.allowance (declined_of e))

pub record Written (step : Step) (a : ℕ) (gs : List Glyph) (s t : Standing) (r : Result ℕ Refusal) : Type 0 where
  pub outcome : WrittenSo step a gs s t r
