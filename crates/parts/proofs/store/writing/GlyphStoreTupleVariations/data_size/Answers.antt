use Rattle.std.proofs.Common.{arith}
use Rattle.parts.proofs.Stores.{store_long}
use Rattle.parts.proofs.store.writing.GlyphStoreTupleVariations.data_size.Goals as goal

pub data_length-requires : goal.data_length-requires
data_length-requires c = omega (arith, store_long c.args.self.now)
