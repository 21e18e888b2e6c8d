use Rattle.std.proofs.Common.{arith}
use Rattle.parts.specs.OfStore.{store_peaks, store_variations}
use Rattle.parts.proofs.Stores.{store_long}
use Rattle.parts.proofs.Pieces.{header_told}
use Rattle.parts.proofs.store.GlyphStore.header.Goals as goal

pub returns : goal.returns
returns c =
    let s = c.args.self.now in
    header_told _ c.variation-v.result (store_variations s) c.args.j (omega (arith, store_long s)) c.variation-v.ensures c.is_shared.result c.is_shared.ensures
    (store_peaks s) c.data_length.result c.index.result c.stores_region.result c.data_length.ensures.size c.index.ensures c.stores_region.ensures
