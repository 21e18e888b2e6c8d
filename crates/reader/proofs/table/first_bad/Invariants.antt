use Rattle.std.proofs.Common.{◌≡◌}
use Rattle.reader.proofs.TableSteps.{before, BadLeft}
use Rattle.reader.proofs.table.first_bad.Given as goal

abbrev pub invariant-loop-i : goal.invariant-loop-i
invariant-loop-i l = (l.last ≡ before l.bytes l.long l.i) × BadLeft l.bytes l.long l.glyphs l.data_at l.i
