use Rattle.std.proofs.Common.{ap, ◌∙◌}
use Rattle.counts.specs.declared.cells.CountCell.{CountCell}
use Rattle.parts.proofs.Stores.{store_mark}
use Rattle.parts.proofs.store.GlyphStore.is_shared.Goals as goal

pub returns : goal.returns
returns c = c.is_marked.ensures ∙ ap (λ (x : CountCell). x.marked) c.cell.ensures ∙ store_mark c.args.self.now c.args.j c.requires
