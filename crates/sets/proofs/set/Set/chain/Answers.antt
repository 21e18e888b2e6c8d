use Rattle.std.proofs.Common.{◌≡◌, ℕ, ◌%◌, ◌<◌, List, length, get_or, sym, ap, ◌∙◌, subst, arith, get_or-take}
use Rattle.std.proofs.lemmas.Option.{none-some, same_Some}
use Rattle.sets.specs.declared.cells.GlyphCell.{GlyphCell}
use Rattle.sets.specs.Cells.{blank_glyph, number_at, head_at}
use Rattle.sets.proofs.Chains.{some_head, no_head}
use Rattle.sets.proofs.set.Set.chain.Goals as goal

pub returns-in_err-at : goal.returns-in_err-at
returns-in_err-at c =
    let s = c.args.self.now in
    let cs = s.glyphs.now in
    c.from_residual.ensures ∙ no_head (number_at cs) (head_at cs) s.begun (length cs) c.args.bucket s.chained.0 (λ p q _ _. none-some p (sym c.in_err-at.was ∙ c.item.ensures ∙ q))

pub returns-in_err-cell : goal.returns-in_err-cell
returns-in_err-cell c =
    let s = c.args.self.now in
    let cs = s.glyphs.now in
    c.from_residual-in_err-cell.ensures
    ∙ no_head (number_at cs) (head_at cs) s.begun (length cs) c.args.bucket s.chained.0
    (λ p q k _. let e : c.in_ok-at.at ≡ p = same_Some _ _ (sym c.in_ok-at.was ∙ c.item.ensures ∙ q) in omega (arith, c.in_err-cell.ensures.lookup.3, c.glyph_cells.ensures.len))

pub returns-then-from-self : goal.returns-then-from-self
returns-then-from-self c =
    let s = c.args.self.now in
    let cs = s.glyphs.now in
    let at = c.in_ok-at.at in
    let l : at < s.begun = omega (arith, c.in_ok-cell.ensures.lookup.3.0, c.glyph_cells.ensures.len) in
    let n : c.from.result ≡ number_at cs at =
    c.from.ensures
    ∙ ap (λ (x : GlyphCell). x.number) (c.in_ok-cell.ensures.lookup.3.1 blank_glyph ∙ ap (λ (xs : List GlyphCell). get_or xs at blank_glyph) c.glyph_cells.ensures.are ∙ get_or-take s.begun cs at blank_glyph l) in
    sym c.in_ok-at.was ∙ c.item.ensures
    ∙ some_head (number_at cs) (head_at cs) s.begun (length cs) c.args.bucket at s.chained.0 l (ap (λ (x : ℕ). x % length cs) (sym n) ∙ c.if-from-self.true)

pub returns-else-from-self : goal.returns-else-from-self
returns-else-from-self c =
    let s = c.args.self.now in
    let cs = s.glyphs.now in
    let at = c.in_ok-at.at in
    let l : at < s.begun = omega (arith, c.in_ok-cell.ensures.lookup.3.0, c.glyph_cells.ensures.len) in
    let n : c.from.result ≡ number_at cs at =
    c.from.ensures
    ∙ ap (λ (x : GlyphCell). x.number) (c.in_ok-cell.ensures.lookup.3.1 blank_glyph ∙ ap (λ (xs : List GlyphCell). get_or xs at blank_glyph) c.glyph_cells.ensures.are ∙ get_or-take s.begun cs at blank_glyph l) in
    no_head (number_at cs) (head_at cs) s.begun (length cs) c.args.bucket s.chained.0
    (λ p q _ e.
    let z : at ≡ p = same_Some _ _ (sym c.in_ok-at.was ∙ c.item.ensures ∙ q) in
    c.if-from-self.false (ap (λ (x : ℕ). x % length cs) n ∙ subst (λ (y : ℕ). number_at cs y % length cs ≡ c.args.bucket) (sym z) e))
