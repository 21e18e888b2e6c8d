use Rattle.std.proofs.Common.{ℕ, ◌<◌, length, Option, sym, ap, ◌∙◌, subst}
use Rattle.sets.specs.Cells.{number_at, next_at}
use Rattle.sets.specs.Index.{previous}
use Rattle.sets.proofs.Chains.{Walk, left, walk_starts, walk_more, walk_less}
use Rattle.sets.proofs.set.Set.find.Goals as goal

pub loop-at-init : goal.loop-at-init
loop-at-init c =
    let s = c.args.self.now in
    let cs = s.glyphs.now in
    subst (λ (x : Option ℕ). Walk (number_at cs) s.begun (length cs) c.args.number x)
    (sym (c.chain-at.ensures ∙ ap (λ (b : ℕ). previous (number_at cs) (length cs) b s.begun) c.in_ok-bucket.ensures.1))
    (walk_starts (number_at cs) s.begun (length cs) c.args.number)

pub loop-at-smaller : goal.loop-at-smaller
loop-at-smaller c =
    let s = c.args.self.now in
    let cs = s.glyphs.now in
    let w = subst (λ (x : Option ℕ). Walk (number_at cs) s.begun (length cs) c.args.number x) c.in-Some.is c.loop-at.invariant in
    subst (λ (y : Option ℕ). left y < left c.loop-at.at) (sym c.item-at.ensures)
    (subst (λ (x : Option ℕ). left (next_at cs c.in-Some.place) < left x) (sym c.in-Some.is)
    (walk_less (number_at cs) (next_at cs) s.begun (length cs) c.args.number c.in-Some.place s.chained.1 w))

pub loop-at-preserved : goal.loop-at-preserved
loop-at-preserved c =
    let s = c.args.self.now in
    let cs = s.glyphs.now in
    let w = subst (λ (x : Option ℕ). Walk (number_at cs) s.begun (length cs) c.args.number x) c.in-Some.is c.loop-at.invariant in
    subst (λ (y : Option ℕ). Walk (number_at cs) s.begun (length cs) c.args.number y) (sym c.item-at.ensures)
    (walk_more (number_at cs) (next_at cs) s.begun (length cs) c.args.number c.in-Some.place s.chained.1 w (λ e. c.if-from-number.false (c.from.ensures ∙ e)))
