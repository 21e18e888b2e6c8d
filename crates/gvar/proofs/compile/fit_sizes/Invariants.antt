use Rattle.std.proofs.Common.{ℕ, ◌<◌}
use Rattle.format.specs.Answers.{SizesFit}
use Rattle.parts.specs.OfParts.{parts_glyphs}
use Rattle.gvar.proofs.compile.fit_sizes.Given as goal

abbrev pub invariant-loop-n : goal.invariant-loop-n
invariant-loop-n l = (m : ℕ) → m < l.n → SizesFit (parts_glyphs l.parts) m
