use Rattle.std.proofs.Common.{◌≡◌, ℕ, ◌*◌, ◌≤◌, List, length, take, ℤ, sym, ap, ◌∙◌, arith, length-take-le, rules}
use Rattle.format.specs.Table.{variation_count}
use Rattle.sets.specs.OfSet.{stores, sound_of, glyphs_of}
use Rattle.sets.specs.Rows.{rows}
use Rattle.sets.proofs.Full.{count_is}
use Rattle.sets.proofs.Peaked.{used_long, used_rows}
use Rattle.sets.proofs.set.Set.axis_values.Goals as goal

pub overflow_mul-result : goal.overflow_mul-result
overflow_mul-result c =
    let s = c.args.self.now in
    let e : c.values_each.result * c.variation_count.result ≡ 3 * s.axes.count * s.added = λ i. c.values_each.ensures.is i * (c.variation_count.ensures.is ∙ sym (count_is (stores s) (sound_of s))) i in
    let k : c.values_each.result * c.variation_count.result ≤ length s.values.now = omega (arith, s.within.2) in
    search rules

pub slice_bounds-result-end-2 : goal.slice_bounds-result-end-2
slice_bounds-result-end-2 c =
    let s = c.args.self.now in
    let e : c.values_each.result * c.variation_count.result ≡ 3 * s.axes.count * s.added = λ i. c.values_each.ensures.is i * (c.variation_count.ensures.is ∙ sym (count_is (stores s) (sound_of s))) i in
    sym (length-take-le _ s.values.now (omega (arith, s.within.2)))

pub returns : goal.returns
returns c =
    let s = c.args.self.now in
    let n : c.values_each.result * c.variation_count.result ≡ 3 * s.axes.count * s.added = λ i. c.values_each.ensures.is i * (c.variation_count.ensures.is ∙ sym (count_is (stores s) (sound_of s))) i in
    let e = ap (λ (k : ℕ). take k s.values.now) n in
    record {
      long = ap length e ∙ used_long (stores s) (sound_of s);
      rows = ap (λ (xs : List ℤ). rows s.axes.count xs (variation_count (glyphs_of s))) e ∙ used_rows (stores s) (sound_of s);
    }
