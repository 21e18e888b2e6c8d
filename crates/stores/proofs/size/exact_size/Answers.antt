use Rattle.std.proofs.Common.{length, sym, ap, arith}
use Rattle.stores.proofs.Parts.{store_long, no_bytes}
use Rattle.stores.proofs.size.exact_size.Goals as goal

pub returns-then-count-eq0 : goal.returns-then-count-eq0
returns-then-count-eq0 g c =
    let t = g.T.TupleVariations in
    let store = c.args.store.now in
    record { size = sym (ap length (no_bytes (t.peaks store) (t.variations store) (omega arith))); most = omega arith }

pub returns : goal.returns
returns g c =
    let t = g.T.TupleVariations in
    let store = c.args.store.now in
    record {
      size = store_long (t.peaks store) (t.variations store) c.headers_size.result c.shared_size.result c.data_total.result (omega arith) c.headers_size.ensures.size c.shared_size.ensures.size c.data_total.ensures.size;
      most = omega arith;
    }
