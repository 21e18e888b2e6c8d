use Rattle.std.proofs.Common.{arith}
use Rattle.parts.specs.OfStore.{store_variations}
use Rattle.parts.proofs.Stores.{store_long}
use Rattle.parts.proofs.Pieces.{data_told}
use Rattle.parts.proofs.store.GlyphStore.data.Goals as goal

pub returns : goal.returns
returns c =
    let s = c.args.self.now in
    data_told _ c.variation-v.result (store_variations s) c.args.j (omega (arith, store_long s)) c.variation-v.ensures c.is_shared.result c.is_shared.ensures
