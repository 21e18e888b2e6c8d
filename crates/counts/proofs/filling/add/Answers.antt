use Rattle.std.proofs.Common.{◌≡◌, ℕ, ◌+◌, ◌%◌, ◌<◌, ◌≤◌, List, length, sym, ap, ◌∙◌, subst, mod-lt, arith}
use Rattle.counts.specs.declared.cells.CountCell.{CountCell}
use Rattle.counts.specs.Cells.{entered, chained}
use Rattle.counts.specs.Tables.{LeavesRanks}
use Rattle.counts.specs.Chains.{State}
use Rattle.counts.proofs.Classes.{first_le}
use Rattle.counts.proofs.Steps.{leaves_more, entered_leaves, chained_leaves}
use Rattle.counts.proofs.Adds.{state_fits, state_joins, state_starts}
use Rattle.counts.proofs.filling.add.Goals as goal

pub enter-requires : goal.enter-requires
enter-requires g c =
    let s = g.I.Items.sameness c.args.items.now in
    let h = c.find-first.ensures in
    record {
      within = omega (arith, c.requires.along.long);
      order = omega (arith, first_le s c.args.i c.requires.inside);
      fits = state_fits s _ _ _ c.requires.inside h c.requires.along;
    }

pub returns-then-first-i : goal.returns-then-first-i
returns-then-first-i g c =
    let s = g.I.Items.sameness c.args.items.now in
    let long = c.requires.along.long in
    let n = g.I.Items.size c.args.items.now in
    let old = c.args.cells.now in
    let i = c.args.i in
    let f = c.find-first.result in
    let b = c.hash.result % c.count-n.result in
    let hi = c.requires.inside in
    let h = c.find-first.ensures in
    let within : i < length old = omega arith in
    let le : f ≤ i = omega (arith, first_le s i hi) in
    let one = entered_leaves old i f within le n hi in
    let m : b < c.count-n.result = mod-lt _ (omega arith) in
    let lb : b < n = omega arith in
    let in1 : i < length (entered old i f) = omega (arith, one.long) in
    let in2 : b < length (entered old i f) = omega (arith, one.long) in
    let bucket : b ≡ g.I.Items.code c.args.items.now i % n = ap (λ (x : ℕ). x % c.count-n.result) c.hash.ensures ∙ ap (λ (x : ℕ). g.I.Items.code c.args.items.now i % x) c.count-n.ensures in
    let is : c.chain.new.cells ≡ chained (entered old i f) i b = c.chain.ensures ∙ ap (λ (xs : List CountCell). chained xs i b) c.enter.ensures in
    record {
      along = subst (λ (xs : List CountCell). State (g.I.Items.alike c.args.items.now) (g.I.Items.code c.args.items.now) n (i + 1) xs) (sym is) (state_starts s old i f hi c.requires.along h c.if-first-i.true b bucket lb);
      rest = subst (λ (xs : List CountCell). LeavesRanks n old xs) (sym is) (leaves_more n old (entered old i f) _ one (chained_leaves (entered old i f) i b in1 in2 n hi lb));
    }

pub returns-else-first-i : goal.returns-else-first-i
returns-else-first-i g c =
    let s = g.I.Items.sameness c.args.items.now in
    let long = c.requires.along.long in
    let n = g.I.Items.size c.args.items.now in
    let old = c.args.cells.now in
    let i = c.args.i in
    let f = c.find-first.result in
    let hi = c.requires.inside in
    let h = c.find-first.ensures in
    let within : i < length old = omega arith in
    let le : f ≤ i = omega (arith, first_le s i hi) in
    let ne = c.if-first-i.false in
    let lt : f < i = omega arith in
    let is = c.enter.ensures in
    record {
      along = subst (λ (xs : List CountCell). State (g.I.Items.alike c.args.items.now) (g.I.Items.code c.args.items.now) n (i + 1) xs) (sym is) (state_joins s old i f hi c.requires.along h lt);
      rest = subst (λ (xs : List CountCell). LeavesRanks n old xs) (sym is) (entered_leaves old i f within le n hi);
    }
