use Rattle.std.proofs.Common.{map, take, Err, sym, ◌∙◌}
use Rattle.std.proofs.lemmas.Result.{err_from_is_err_and}
use Rattle.format.specs.Bytes.{joined}
use Rattle.write.proofs.Feeding.{fed_whole, fed_then, fed_stop}
use Rattle.variations.proofs.Filling.{run_bytes_is, values_none}
use Rattle.variations.proofs.packing.put_run.Goals as goal

pub returns-in_err-take : goal.returns-in_err-take
returns-in_err-take g c =
    let q = err_from_is_err_and c.from_residual.result c.from_residual.ensures.1 in
    let k = g.P.Kind.RunKind in
    let r = c.args.run in
    let vs = g.P.Packed.values c.args.values.now in
    let is = run_bytes_is k.form k.MOST g.met.P.Kind.RunKind.lawful vs (g.P.Packed.places c.args.values.now) r.start r c.requires in
    rw (q.1, q.2, is, ← c.flag.ensures) (fed_stop (joined (map (k.form.value_bytes r.kind) (take r.count (vs r.start)))) _ (fed_whole (Err _) c.in_err-take.ensures))

pub returns-then-width-eq0 : goal.returns-then-width-eq0
returns-then-width-eq0 g c =
    let k = g.P.Kind.RunKind in
    let r = c.args.run in
    let vs = g.P.Packed.values c.args.values.now in
    let is = run_bytes_is k.form k.MOST g.met.P.Kind.RunKind.lawful vs (g.P.Packed.places c.args.values.now) r.start r c.requires in
    let none = values_none k.form k.MOST g.met.P.Kind.RunKind.lawful r.kind (take r.count (vs r.start)) (sym c.width.ensures ∙ c.if-width-eq0.true) in
    rw (is, none, ← c.flag.ensures) (record { outcome = c.in_ok-take.ensures })

pub returns : goal.returns
returns g c =
    let k = g.P.Kind.RunKind in
    let r = c.args.run in
    let vs = g.P.Packed.values c.args.values.now in
    let is = run_bytes_is k.form k.MOST g.met.P.Kind.RunKind.lawful vs (g.P.Packed.places c.args.values.now) r.start r c.requires in
    rw (is, ← c.flag.ensures) (fed_then c.put_values.result c.in_ok-take.ensures c.put_values.ensures)
