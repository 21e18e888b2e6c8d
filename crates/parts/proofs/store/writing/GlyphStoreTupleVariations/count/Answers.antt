use Rattle.std.proofs.Common.{sym}
use Rattle.parts.proofs.Stores.{store_long}
use Rattle.parts.proofs.store.writing.GlyphStoreTupleVariations.count.Goals as goal

pub returns-clause-count : goal.returns-clause-count
returns-clause-count c = sym (store_long c.args.self.now)
