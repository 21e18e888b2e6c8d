use Rattle.std.proofs.Common.{◌≡◌, ℕ, ◌≤◌, List, []}
use Rattle.write.specs.Sinks.{Part}
use Rattle.variations.proofs.runs.Runs.feed.Given as goal

abbrev pub invariant-loop-run : goal.invariant-loop-run
invariant-loop-run g l =
    let bytes : ℕ → List ℕ = λ p. g.P.Kind.RunKind.form.bytes (g.P.Packed.values l.values p) in
    (goal.iterator-loop-run g).can_next l.run-iterator
    × (goal.iterator-loop-run g).is_finite l.run-iterator
    × (l.run-iterator.values ≡ l.values)
    × (l.run-iterator.place ≤ g.P.Packed.places l.values)
    × (l.batch ≡ [])
    × Part g.S.Sink.step (bytes l.fn.self.place) (bytes l.run-iterator.place) (g.S.Sink.stands l.initial.sink) (g.S.Sink.stands l.sink)
