use Rattle.std.proofs.Common.{◌≡◌, length, ap, ◌∙◌, arith}
use Rattle.stores.specs.Parts.{variation_at, header_in}
use Rattle.stores.proofs.Owed.{header_most}
use Rattle.parts.specs.OfStore.{store_peaks, store_variations}
use Rattle.parts.proofs.Stores.{store_long, store_axes}
use Rattle.parts.proofs.store.writing.GlyphStoreTupleVariations.header_size.Goals as goal

pub header-requires : goal.header-requires
header-requires c = omega (arith, store_long c.args.self.now)

pub returns : goal.returns
returns c =
    let s = c.args.self.now in
    let vs = store_variations s in
    let v = variation_at vs c.args.j in
    let e : c.size.result ≡ length (header_in (store_peaks s) vs v) = c.size.ensures ∙ ap length c.header.ensures in
    let m = header_most (store_peaks s) vs v in
    let a = store_axes s c.args.j (omega (arith, store_long s)) in
    record { size = e; most = omega arith }
