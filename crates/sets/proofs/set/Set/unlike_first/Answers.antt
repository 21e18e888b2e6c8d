use Rattle.std.proofs.Common.{◌≡◌, ℕ, ◌-◌, not, nat_eq, get_or, ap, ◌∙◌, arith}
use Rattle.std.proofs.lemmas.Bool.{le-ltb}
use Rattle.sets.specs.declared.cells.GlyphCell.{GlyphCell}
use Rattle.sets.specs.Cells.{blank_variation}
use Rattle.sets.specs.OfSet.{stores, sound_of}
use Rattle.sets.specs.Writing.{last_cell}
use Rattle.sets.proofs.Deal.{other_is, other_none}
use Rattle.sets.proofs.set.Set.unlike_first.Goals as goal

pub returns-then-count-gt0 : goal.returns-then-count-gt0
returns-then-count-gt0 c =
    let s = c.args.self.now in
    let count : c.from-count.result ≡ (last_cell (stores s)).variations = c.from-count.ensures ∙ ap (λ (x : GlyphCell). x.variations) c.last.ensures.is in
    let any = c.if-count-gt0.true in
    let deltas = c.from.ensures ∙ ap (λ (n : ℕ). (get_or s.variations.now (s.added - n) blank_variation).deltas) count in
    ap (λ (n : ℕ). not (nat_eq n c.args.n)) deltas ∙ other_is (stores s) (sound_of s) c.requires (λ e. omega arith) c.args.n

pub returns-else-count-gt0 : goal.returns-else-count-gt0
returns-else-count-gt0 c =
    let s = c.args.self.now in
    let count : c.from-count.result ≡ (last_cell (stores s)).variations = c.from-count.ensures ∙ ap (λ (x : GlyphCell). x.variations) c.last.ensures.is in
    let none = c.if-count-gt0.false in
    le-ltb _ _ (omega arith) ∙ other_none (stores s) (sound_of s) c.requires (omega arith) c.args.n
