use Rattle.std.proofs.Common.{◌≡◌, ◌+◌, true, false, length, arith}
use Rattle.stores.specs.Parts.{variation_at, data_in}
use Rattle.parts.specs.OfStore.{store_variations}
use Rattle.parts.proofs.Stores.{store_long}
use Rattle.parts.proofs.Pieces.{points_few, values_few, size_told}
use Rattle.parts.proofs.store.GlyphStore.data_length.Goals as goal

pub overflow_add-result : goal.overflow_add-result
overflow_add-result c =
    let v = c.variation.result in
    let p = points_few _ v _ c.variation.ensures in
    let q = values_few _ v _ c.variation.ensures in
    omega arith

pub returns-then-is_shared : goal.returns-then-is_shared
returns-then-is_shared c =
    let vs = store_variations c.args.self.now in
    let v = c.variation.result in
    let e : 0 + v.stored.values ≡ length (data_in vs (variation_at vs c.args.j)) =
    size_told _ v vs c.args.j (omega (arith, store_long c.args.self.now)) c.variation.ensures true c.if-is_shared.ensures in
    let q = values_few _ v _ c.variation.ensures in
    record { size = omega arith; most = omega arith }

pub returns-else-is_shared : goal.returns-else-is_shared
returns-else-is_shared c =
    let vs = store_variations c.args.self.now in
    let v = c.variation.result in
    let e : v.stored.points + v.stored.values ≡ length (data_in vs (variation_at vs c.args.j)) =
    size_told _ v vs c.args.j (omega (arith, store_long c.args.self.now)) c.variation.ensures false c.if-is_shared.ensures in
    let p = points_few _ v _ c.variation.ensures in
    let q = values_few _ v _ c.variation.ensures in
    record { size = e; most = omega arith }
