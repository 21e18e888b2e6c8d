use Rattle.tables.specs.Forms.{halves}
use Rattle.tables.specs.Parts.{glyph_at}
use Rattle.tables.proofs.Pads.{slot_long, slot_small}
use Rattle.tables.proofs.table.Table.slot_size.Goals as goal

pub returns : goal.returns
returns g c =
    let s = halves c.args.self.now.form in
    let size = c.glyph_size-size in
    let b = glyph_at (g.P.TableParts.glyphs c.args.self.now.parts.now) c.args.n in
    record {
      is = slot_long s b size.result c.from.result c.pads.result size.ensures.is c.pads.ensures c.from.ensures;
      small = slot_small s size.result c.from.result c.pads.result size.ensures.small c.pads.ensures c.from.ensures;
    }
