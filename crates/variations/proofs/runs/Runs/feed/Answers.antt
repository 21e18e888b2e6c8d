use Rattle.std.proofs.Common.{◌+◌, ◌-◌, ◌≤◌, length, Err, sym, refl, ap, ◌∙◌, subst, arith}
use Rattle.std.proofs.lemmas.Result.{err_from_is_err_and}
use Rattle.write.proofs.Feeding.{fed_whole, part_none, part_more, part_stop, part_done}
use Rattle.variations.specs.Runs.{RunAt}
use Rattle.variations.proofs.Filling.{bytes_none, bytes_step, run_shown, run_never_full}
use Rattle.variations.proofs.runs.Runs.feed.Goals as goal

pub loop-run-init : goal.loop-run-init
loop-run-init g c = rw c.into_iter-run-iterator.ensures.into_iter_gives (tt, tt, refl, c.requires.within, c.requires.empty, part_none)

pub put_run-requires : goal.put_run-requires
put_run-requires g c =
    let k = g.P.Kind.RunKind in
    let p = g.P.Packed in
    let r = c.in-Some.run' in
    let h = subst (λ s. RunAt k.form k.MOST (p.values s) (p.places s) c.loop-run.run-iterator.place r) c.loop-run.invariant.2 c.in-Some.ensures.steps.0 in
    subst (λ q. RunAt k.form k.MOST (p.values c.args.self.values) (p.places c.args.self.values) q r) (sym h.starts) h

pub returns-in_err-put_run : goal.returns-in_err-put_run
returns-in_err-put_run g c =
    let k = g.P.Kind.RunKind in
    let p = g.P.Packed in
    let v = c.args.self.values in
    let i = c.loop-run.invariant in
    let h = subst (λ s. RunAt k.form k.MOST (p.values s) (p.places s) c.loop-run.run-iterator.place c.in-Some.run') i.2 c.in-Some.ensures.steps.0 in
    let room : g.row.N ≤ g.row.N - length c.loop-run.batch + length c.loop-run.batch = omega arith in
    absurd (run_never_full k.form k.MOST g.met.P.Kind.RunKind.lawful (p.values v) (p.places v) _ _ h g.row.N _ c.requires.room room i.4 c.in_err-put_run.ensures)

pub returns-in_err-take : goal.returns-in_err-take
returns-in_err-take g c =
    let k = g.P.Kind.RunKind in
    let p = g.P.Packed in
    let v = c.args.self.values in
    let r = c.in-Some.run' in
    let i = c.loop-run.invariant in
    let q = err_from_is_err_and c.from_residual-in_err-take.result c.from_residual-in_err-take.ensures.1 in
    let h = subst (λ s. RunAt k.form k.MOST (p.values s) (p.places s) c.loop-run.run-iterator.place r) i.2 c.in-Some.ensures.steps.0 in
    let room : g.row.N ≤ g.row.N - length c.loop-run.batch + length c.loop-run.batch = omega arith in
    let is = run_shown k.form k.MOST g.met.P.Kind.RunKind.lawful (p.values v) (p.places v) _ _ h g.row.N c.taken.result.now c.requires.room room i.4 c.in_ok-put_run.ensures c.taken.ensures in
    rw (q.1, q.2)
    (part_stop _ (k.form.bytes (p.values v r.after)) (bytes_step k.form k.MOST g.met.P.Kind.RunKind.lawful (p.values v) (p.places v) _ r h) i.5 _ (fed_whole (Err _) (rw is at c.in_err-take.ensures)))

pub loop-run-preserved : goal.loop-run-preserved
loop-run-preserved g c =
    let k = g.P.Kind.RunKind in
    let p = g.P.Packed in
    let v = c.args.self.values in
    let r = c.in-Some.run' in
    let i = c.loop-run.invariant in
    let n = c.in-Some.ensures.steps in
    let h = subst (λ s. RunAt k.form k.MOST (p.values s) (p.places s) c.loop-run.run-iterator.place r) i.2 n.0 in
    let room : g.row.N ≤ g.row.N - length c.loop-run.batch + length c.loop-run.batch = omega arith in
    let is = run_shown k.form k.MOST g.met.P.Kind.RunKind.lawful (p.values v) (p.places v) _ _ h g.row.N c.taken.result.now c.requires.room room i.4 c.in_ok-put_run.ensures c.taken.ensures in
    let fed = part_more _ (k.form.bytes (p.values v r.after)) (bytes_step k.form k.MOST g.met.P.Kind.RunKind.lawful (p.values v) (p.places v) _ r h) i.5 (rw is at c.in_ok-take.ensures) in
    (tt, tt, n.2 ∙ i.2, rw n.1 h.within, c.clear.ensures, rw n.1 fed)

pub returns : goal.returns
returns g c =
    let k = g.P.Kind.RunKind in
    let i = c.loop-run.invariant in
    let none = ap (λ s. g.P.Packed.values s c.loop-run.run-iterator.place) (sym i.2) ∙ c.in-None.ensures.steps.0 in
    part_done (bytes_none k.form k.MOST g.met.P.Kind.RunKind.lawful _ none) i.5
