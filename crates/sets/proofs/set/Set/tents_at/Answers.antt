use Rattle.std.proofs.Common.{◌≡◌, ℕ, ◌+◌, ◌*◌, ◌≤◌, length, ap, arith, rules}
use Rattle.sets.specs.OfSet.{stores, sound_of}
use Rattle.sets.proofs.Shown.{values_fit}
use Rattle.sets.proofs.set.Set.tents_at.Goals as goal

pub slice_bounds-result-end : goal.slice_bounds-result-end
slice_bounds-result-end c =
    let s = c.args.self.now in
    let v = values_fit (stores s) (sound_of s) c.args.i c.requires in
    let e : c.values_each-each.result * c.args.i ≡ 3 * s.axes.count * c.args.i = ap (λ (x : ℕ). x * c.args.i) c.values_each-each.ensures.is in
    let k : c.values_each-each.result * c.args.i + c.values_each-each.result ≤ length s.values.now = omega (arith, c.values_each-each.ensures.is) in
    search rules
