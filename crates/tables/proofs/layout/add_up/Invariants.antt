use Rattle.tables.specs.Layouts.{Summed}
use Rattle.tables.proofs.layout.add_up.Given as goal

abbrev pub invariant-loop-n : goal.invariant-loop-n
invariant-loop-n g l = Summed (g.P.TableParts.glyphs l.parts) l.n l.sums
