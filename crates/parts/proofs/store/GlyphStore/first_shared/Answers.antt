use Rattle.std.proofs.Common.{◌≡◌, ℕ, ◌<◌, ◌≤◌, true, false, get_or, Some, None, Option, MatchOption, arith, rules, tests}
use Rattle.std.proofs.lemmas.Iterator.{first_from_Range}
use Rattle.counting.specs.Counted.{marks}
use Rattle.parts.specs.OfStore.{store_variations}
use Rattle.parts.proofs.store.GlyphStore.first_shared.Goals as goal

from_zero : (n : ℕ) (Yes No : ℕ → Type 0) (r : Option ℕ) →
    MatchOption r ((k : ℕ) → 0 ≤ k → k < n → No k) (λ i. (0 ≤ i) × (i < n) × Yes i × ((k : ℕ) → 0 ≤ k → k < i → No k)) →
    MatchOption r ((k : ℕ) → k < n → No k) (λ i. (i < n) × Yes i)
from_zero n Yes No None h = λ k l. h k (omega arith) l
from_zero n Yes No (Some i) h = (h.1, h.2)

pub returns : goal.returns
returns c =
    let s = c.args.self.now in
    let ms = marks (store_variations s) in
    from_zero s.span.count (λ j. get_or ms j false ≡ true) (λ j. get_or ms j false ≡ false) c.find.result
    (first_from_Range _ _ _ c.find.result (λ j. get_or ms j false ≡ true) (λ j. get_or ms j false ≡ false) c.find.ensures.ran (λ x q k. search (rules, tests)) (λ x q k. search (rules, tests)))
