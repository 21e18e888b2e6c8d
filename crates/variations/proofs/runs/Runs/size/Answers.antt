use Rattle.std.proofs.Common.{sym, refl, ap, ◌∙◌, length, subst, arith}
use Rattle.variations.specs.Runs.{RunAt}
use Rattle.variations.proofs.Filling.{sized, bytes_none}
use Rattle.variations.proofs.runs.Runs.size.Goals as goal

pub loop-run-init : goal.loop-run-init
loop-run-init g c = rw c.into_iter-run-iterator.ensures.into_iter_gives (tt, tt, refl, c.requires.within, omega arith, omega arith)

pub overflow_add-size : goal.overflow_add-size
overflow_add-size g c =
    let k = g.P.Kind.RunKind in
    let p = g.P.Packed in
    let v = c.args.self.values in
    let i = c.loop-run.invariant in
    let h = subst (λ s. RunAt k.form k.MOST (p.values s) (p.places s) c.loop-run.run-iterator.place c.in-Some.run') i.2 c.in-Some.ensures.steps.0 in
    let s = sized k.form k.MOST g.met.P.Kind.RunKind.lawful (p.values v) (p.places v) _ _ h c.args.self.place c.loop-run.size c.size-size.result _ c.size-size.ensures i.4 i.5 in
    omega (arith, s.bound, h.within, c.requires.room)

pub loop-run-preserved : goal.loop-run-preserved
loop-run-preserved g c =
    let k = g.P.Kind.RunKind in
    let p = g.P.Packed in
    let v = c.args.self.values in
    let i = c.loop-run.invariant in
    let n = c.in-Some.ensures.steps in
    let h = subst (λ s. RunAt k.form k.MOST (p.values s) (p.places s) c.loop-run.run-iterator.place c.in-Some.run') i.2 n.0 in
    let s = sized k.form k.MOST g.met.P.Kind.RunKind.lawful (p.values v) (p.places v) _ _ h c.args.self.place c.loop-run.size c.size-size.result _ c.size-size.ensures i.4 i.5 in
    (tt, tt, n.2 ∙ i.2, rw n.1 h.within, rw n.1 s.bound, rw n.1 s.sum)

pub returns : goal.returns
returns g c =
    let k = g.P.Kind.RunKind in
    let i = c.loop-run.invariant in
    let none = ap (λ s. g.P.Packed.values s c.loop-run.run-iterator.place) (sym i.2) ∙ c.in-None.ensures.steps.0 in
    let z = ap length (bytes_none k.form k.MOST g.met.P.Kind.RunKind.lawful _ none) in
    record { size = omega (arith, i.5, z); most = omega (arith, i.3, i.4) }
