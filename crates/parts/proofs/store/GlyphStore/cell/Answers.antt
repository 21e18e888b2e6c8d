use Rattle.std.proofs.Common.{arith}
use Rattle.parts.proofs.Stores.{cell_there}
use Rattle.parts.proofs.store.GlyphStore.cell.Goals as goal

pub bounds-cells-self : goal.bounds-cells-self
bounds-cells-self c = cell_there c.args.self.now c.args.j c.requires

pub offset_bounds-cells-self : goal.offset_bounds-cells-self
offset_bounds-cells-self c = let l = cell_there c.args.self.now c.args.j c.requires in omega arith
