use Rattle.std.proofs.lemmas.Option.{MatchOption-at_some}
use Rattle.parts.proofs.Stores.{store_shows}
use Rattle.parts.proofs.store.GlyphStore.variation.Goals as goal

pub returns : goal.returns
returns c = store_shows c.args.self.now c.args.j c.requires c.unwrap.result (MatchOption-at_some _ _ c.unwrap.result c.unwrap.ensures c.view.ensures).1
