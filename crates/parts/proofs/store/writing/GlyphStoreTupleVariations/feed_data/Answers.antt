use Rattle.std.proofs.Common.{arith}
use Rattle.parts.proofs.Stores.{store_long}
use Rattle.parts.proofs.store.writing.GlyphStoreTupleVariations.feed_data.Goals as goal

pub data-requires : goal.data-requires
data-requires g c = omega (arith, store_long c.args.self.now)
