use Rattle.std.proofs.Common.{ℕ, ◌*◌, ◌≤◌, sym, ap, ◌∙◌, mul-le-mul, arith}
use Rattle.tables.proofs.table.Table.peaks_size.Goals as goal

pub returns : goal.returns
returns g c =
    let a = c.from.result in
    let n = c.shared_count.result in
    let small : a ≤ 65535 = omega (arith, c.from.ensures) in
    let most : a * n ≤ 65535 * 4095 = mul-le-mul small c.shared_count.ensures.few in
    record {
      is = ap (λ (k : ℕ). 2 * (k * n)) (c.from.ensures ∙ c.axis_count.ensures) ∙ sym c.shared_count.ensures.words;
      small = omega arith;
    }
