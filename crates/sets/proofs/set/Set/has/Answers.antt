use Rattle.std.proofs.Common.{◌≡◌, ℕ, ◌<◌, ◌≢◌, Some, None, Option, MatchOption, is_some, ◌∙◌}
use Rattle.format.specs.Account.{begun}
use Rattle.sets.specs.declared.set.Set.{Set}
use Rattle.sets.specs.Cells.{number_at}
use Rattle.sets.specs.Layout.{dealt}
use Rattle.sets.specs.OfSet.{stores, glyphs_of}
use Rattle.sets.proofs.Lists.{begun_at, begun_not}
use Rattle.sets.proofs.set.Set.has.Goals as goal

found : (s : Set) (n : ℕ) (r : Option ℕ) →
    MatchOption r ((g : ℕ) → g < s.begun → number_at s.glyphs.now g ≢ n) (λ p. (p < s.begun) × (number_at s.glyphs.now p ≡ n)) →
    is_some r ≡ begun n (glyphs_of s)
found s n None h = begun_not n s.begun s.glyphs.now (dealt (stores s)) s.within.0 h
found s n (Some p) h = begun_at n s.begun s.glyphs.now (dealt (stores s)) p s.within.0 h.0 h.1

pub returns : goal.returns
returns c = c.is_some.ensures ∙ found c.args.self.now c.args.number c.find.result c.find.ensures
