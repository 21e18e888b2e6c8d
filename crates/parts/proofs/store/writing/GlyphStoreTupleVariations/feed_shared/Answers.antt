use Rattle.std.proofs.Common.{sym, ap, ◌∙◌, arith}
use Rattle.format.specs.Packed.{packed_points}
use Rattle.write.proofs.Laws.{handed_none}
use Rattle.write.proofs.Feeding.{fed_as}
use Rattle.parts.specs.OfStore.{store_variations}
use Rattle.parts.proofs.Stores.{store_long}
use Rattle.parts.proofs.Pieces.{points_told, shared_told, none_shared}
use Rattle.parts.proofs.store.writing.GlyphStoreTupleVariations.feed_shared.Goals as goal

pub returns : goal.returns
returns g c =
    let s = c.args.self.now in
    let v = c.variation-v.result in
    let h = c.variation-v.ensures in
    fed_as
    (ap packed_points c.point_numbers.ensures.points
    ∙ points_told _ v _ h
    ∙ shared_told _ v (store_variations s) c.in-Some.first (omega (arith, store_long s, c.in-Some.ensures.0)) h c.in-Some.ensures.1)
    c.feed.ensures

pub returns-in_default : goal.returns-in_default
returns-in_default g c =
    let s = c.args.self.now in
    fed_as (sym (none_shared (store_variations s) (λ j l. c.in_default.ensures j (omega (arith, store_long s))))) (record { outcome = handed_none })
