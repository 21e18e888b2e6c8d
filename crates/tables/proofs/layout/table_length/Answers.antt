use Rattle.std.proofs.Common.{arith}
use Rattle.tables.proofs.Whole.{table_size, slots_few}
use Rattle.tables.proofs.layout.table_length.Goals as goal

pub returns : goal.returns
returns g c =
    let gs = g.P.TableParts.glyphs c.args.parts.now in
    let a = g.P.TableParts.axes c.args.parts.now in
    let l = c.args.layout in
    record {
      is = λ h. omega (arith, table_size a gs l h, slots_few a gs l h, c.slots_start.ensures.is, c.slots_start.ensures.small, c.saturating_add.ensures);
      small = λ h. omega (arith, slots_few a gs l h, c.slots_start.ensures.small, c.saturating_add.ensures);
    }
