use Rattle.std.proofs.Common.{length, sym, ap, ◌∙◌, arith}
use Rattle.parts.specs.OfStore.{store_variations}
use Rattle.parts.proofs.Stores.{store_long}
use Rattle.parts.proofs.Pieces.{points_few, shared_told, none_shared}
use Rattle.parts.proofs.store.writing.GlyphStoreTupleVariations.shared_size.Goals as goal

pub returns : goal.returns
returns c =
    let s = c.args.self.now in
    let v = c.variation.result in
    let h = c.variation.ensures in
    let p = points_few _ v _ h in
    record {
      size = h.stored.points_are ∙ ap length (shared_told _ v (store_variations s) c.in-Some.first (omega (arith, store_long s, c.in-Some.ensures.0)) h c.in-Some.ensures.1);
      most = omega arith;
    }

pub returns-in_default : goal.returns-in_default
returns-in_default c =
    let s = c.args.self.now in
    record { size = sym (ap length (none_shared (store_variations s) (λ j l. c.in_default.ensures j (omega (arith, store_long s))))); most = omega arith }
