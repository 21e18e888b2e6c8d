use Rattle.std.proofs.Common.{ℕ, ◌+◌, ◌*◌, ◌≤◌, sym, ap, ◌∙◌, mul-le-mul, arith}
use Rattle.tables.specs.Forms.{halves}
use Rattle.tables.specs.Parts.{width_of}
use Rattle.tables.proofs.Slots.{offsets_sized, width_most}
use Rattle.tables.proofs.table.Table.peaks_start.Goals as goal

pub returns : goal.returns
returns g c =
    let gs = g.P.TableParts.glyphs c.args.self.now.parts.now in
    let w = c.width.result in
    let n = c.glyph_count.result in
    let narrow : w ≤ 4 = omega (arith, c.width.ensures, width_most (halves c.args.self.now.form)) in
    let few : n + 1 ≤ 65536 = omega (arith, c.glyph_count.ensures.few) in
    let most : w * (n + 1) ≤ 4 * 65536 = mul-le-mul narrow few in
    record {
      is =
          ap (λ (k : ℕ). 20 + k * (n + 1)) c.width.ensures
          ∙ ap (λ (k : ℕ). 20 + width_of (halves c.args.self.now.form) * (k + 1)) c.glyph_count.ensures.is
          ∙ ap (λ (k : ℕ). 20 + k) (sym (offsets_sized (halves c.args.self.now.form) gs));
      small = omega arith;
    }
