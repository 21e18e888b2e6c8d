use Rattle.std.proofs.Common.{◌≡◌, ℕ, ◌<◌, Bool, true, false, length, get_or, sym, refl, ap, ◌∙◌, arith, rules}
use Rattle.counts.specs.Cells.{blank, lists}
use Rattle.counts.specs.Ranking.{listed}
use Rattle.counts.proofs.Collecting.{collected_few, collected_skips, collected_more, collected_entries}
use Rattle.counts.proofs.ranking.collect.Goals as goal
use Rattle.counts.proofs.ranking.collect.Goals.{then-is_listed, else-is_listed}

pub offset_bounds-cells-k : goal.offset_bounds-cells-k
offset_bounds-cells-k c =
    let few = collected_few _ _ _ _ c.loop-c.invariant in
    let h : c.loop-c.k < length c.loop-c.cells = omega arith in
    search rules

pub bounds-cells-k : goal.bounds-cells-k
bounds-cells-k c = let few = collected_few _ _ _ _ c.loop-c.invariant in omega arith

pub loop-c-preserved : goal.loop-c-preserved
loop-c-preserved c =
    let old = c.args.cells.now in
    let i = c.loop-c.c in
    let k = c.loop-c.k in
    let cells = c.loop-c.cells in
    let inv = c.loop-c.invariant in
    let within : i < length cells = omega arith in
    let lists_as : (b : Bool) → b ≡ lists (get_or cells i blank) (length old) i → b ≡ listed cells i = λ b e. e ∙ ap (λ (n : ℕ). lists (get_or cells i blank) n i) (sym c.loop-c.auto.cells) in
    elim c.if-is_listed.branch [
      | then-is_listed w ↦ rw (w.cells-is, w.k-is) (collected_more old i k cells _ inv within (lists_as true w.if-is_listed.ensures) refl refl refl)
      | else-is_listed w ↦ rw (w.cells-is, w.k-is) (collected_skips old i k cells inv (lists_as false w.if-is_listed.ensures))
    ]

pub returns-clause-entries : goal.returns-clause-entries
returns-clause-entries c = collected_entries _ _ _ _ (omega arith) c.loop-c.invariant
