use Rattle.std.proofs.Common.{◌≡◌, ℕ, ◌+◌, ◌*◌, ◌≤◌, length}
use Rattle.variations.proofs.runs.Runs.size.Given as goal

abbrev pub invariant-loop-run : goal.invariant-loop-run
invariant-loop-run g l =
    let left : ℕ → ℕ = λ p. length (g.P.Kind.RunKind.form.bytes (g.P.Packed.values l.fn.self.values p)) in
    (goal.iterator-loop-run g).can_next l.run-iterator
    × (goal.iterator-loop-run g).is_finite l.run-iterator
    × (l.run-iterator.values ≡ l.fn.self.values)
    × (l.run-iterator.place ≤ g.P.Packed.places l.fn.self.values)
    × (l.size + 3 * l.fn.self.place ≤ 3 * l.run-iterator.place)
    × (l.size + left l.run-iterator.place ≡ left l.fn.self.place)
