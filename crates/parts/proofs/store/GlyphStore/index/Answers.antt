use Rattle.std.proofs.Common.{ap, ◌∙◌, rules, tests}
use Rattle.std.proofs.lemmas.Option.{IfSome_then}
use Rattle.counts.specs.declared.cells.CountCell.{CountCell}
use Rattle.parts.proofs.Stores.{store_indexed}
use Rattle.parts.proofs.store.GlyphStore.index.Goals as goal

pub returns : goal.returns
returns c =
    store_indexed c.args.self.now c.args.j c.requires c.rank-rank.result (c.rank-rank.ensures ∙ ap (λ (x : CountCell). x.rank) c.cell.ensures)
    c.then.result c.then.ensures.variant (IfSome_then c.then.result c.then.ensures.some (λ x p. search (rules, tests)))
