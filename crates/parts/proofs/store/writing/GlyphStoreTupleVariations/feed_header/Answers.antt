use Rattle.std.proofs.Common.{arith}
use Rattle.parts.proofs.Stores.{store_long}
use Rattle.parts.proofs.store.writing.GlyphStoreTupleVariations.feed_header.Goals as goal

pub header-requires : goal.header-requires
header-requires g c = omega (arith, store_long c.args.self.now)
