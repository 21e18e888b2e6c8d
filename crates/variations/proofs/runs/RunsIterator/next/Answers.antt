use Rattle.std.proofs.Common.{refl}
use Rattle.variations.proofs.Cutting.{run_at}
use Rattle.variations.proofs.runs.RunsIterator.next.Goals as goal

pub returns-clause-steps : goal.returns-clause-steps
returns-clause-steps g c =
    let k = g.P.Kind.RunKind in
    let p = g.P.Packed in
    let v = c.args.self.now.values in
    let e = c.run_end-count.ensures in (
      run_at k.form k.MOST g.met.P.Kind.RunKind.lawful (p.values v) (p.places v) c.args.self.now.place c.in_ok-first.first.after _ _ c.in_ok-first.first.value c.of-kind.result
          c.in_ok-first.ensures c.of-kind.ensures e.count e.end e.paced e.within,
      refl,
      refl,
    )
