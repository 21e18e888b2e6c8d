use Rattle.std.proofs.Common.{◌≡◌, ◌-◌, ◌≤◌, true, map, length, take}
use Rattle.std.specs.List.{AllByRecursion}
use Rattle.format.specs.Bytes.{joined}
use Rattle.write.specs.Sinks.{Part}
use Rattle.variations.proofs.packing.put_values.Given as goal

abbrev pub invariant-loop : goal.invariant-loop
invariant-loop g l =
    let f = g.P.Kind.RunKind.form in
    let left = l.fn.run.count - l.counter in
    let values = g.P.Packed.values l.values in
    record {
      enough : left ≤ length (values l.place);
      fit : AllByRecursion (λ v. f.holds l.fn.run.kind v ≡ true) (take left (values l.place));
      fed : Part g.S.Sink.step (joined (map (f.value_bytes l.fn.run.kind) (take l.fn.run.count (values l.fn.run.start)))) (joined (map (f.value_bytes l.fn.run.kind) (take left (values l.place)))) (g.S.Sink.stands l.initial.sink) (g.S.Sink.stands l.sink);
    }
