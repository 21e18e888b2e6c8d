use Rattle.std.proofs.Common.{◌≡◌, ◌+◌, ◌-◌, ◌≤◌, true, drop}
use Rattle.variations.specs.Forms.{reach}
use Rattle.variations.specs.Runs.{Stepped}
use Rattle.variations.proofs.runs.Runs.run_end.Given as goal

abbrev pub invariant-loop-n : goal.invariant-loop-n
invariant-loop-n g l =
    let k = g.P.Kind.RunKind in
    let p = g.P.Packed in
    let at = p.values l.self.values l.end in
    let first = p.values l.self.values l.place in
    record {
      paced : l.place + l.n ≤ l.end + 1;
      inside : l.end ≤ p.places l.self.values;
      ahead : k.LOOKS_AHEAD ≡ true → Stepped (p.values l.self.values) (p.places l.self.values) l.end l.ahead;
      count : l.n + reach k.form l.kind (k.MOST - l.n) at ≡ 1 + reach k.form l.kind (k.MOST - 1) first;
      end : drop (reach k.form l.kind (k.MOST - l.n) at) at ≡ drop (reach k.form l.kind (k.MOST - 1) first) first;
    }
