use Rattle.std.proofs.lemmas.Result.{err_from_is_err_and}
use Rattle.std.proofs.Common.{length, sym, ap, arith}
use Rattle.stores.proofs.Parts.{store_long, no_bytes}
use Rattle.stores.proofs.Tests.{data_refused, headers_refused, all_within}
use Rattle.stores.proofs.size.store_size.Goals as goal

pub returns-in_err-data : goal.returns-in_err-data
returns-in_err-data g c =
    let t = g.T.TupleVariations in
    let store = c.args.store.now in
    let q = err_from_is_err_and c.from_residual.result c.from_residual.ensures.1 in
    rw (q.1, q.2) (record { told = λ k. data_refused (t.peaks store) k (t.variations store) _ (c.in_err-data.ensures.told k) })

pub returns-then-offset-gt-MAX_DATA_OFFSET : goal.returns-then-offset-gt-MAX_DATA_OFFSET
returns-then-offset-gt-MAX_DATA_OFFSET g c =
    let t = g.T.TupleVariations in
    let store = c.args.store.now in
    let data_fits = c.in_ok-data.ensures.told.0 in
    record { told = λ k. headers_refused (t.peaks store) k (t.variations store) (data_fits k) c.headers_size-offset.result c.headers_size-offset.ensures.size c.if-offset-gt-MAX_DATA_OFFSET.true }

pub returns-then-count-eq0 : goal.returns-then-count-eq0
returns-then-count-eq0 g c =
    let t = g.T.TupleVariations in
    let store = c.args.store.now in
    let data_fits = c.in_ok-data.ensures.told.0 in
    let headers = c.headers_size-offset in
    record {
      told = (
        λ k. all_within (t.peaks store) k (t.variations store) (data_fits k) headers.result headers.ensures.size c.if-offset-gt-MAX_DATA_OFFSET.false,
        sym (ap length (no_bytes (t.peaks store) (t.variations store) (omega arith))),
        omega arith,
      );
    }

pub returns : goal.returns
returns g c =
    let t = g.T.TupleVariations in
    let store = c.args.store.now in
    let sized = c.in_ok-data.ensures.told in
    let headers = c.headers_size-offset in
    let shared = c.shared_size in
    record {
      told = (
        λ k. all_within (t.peaks store) k (t.variations store) (sized.0 k) headers.result headers.ensures.size c.if-offset-gt-MAX_DATA_OFFSET.false,
        store_long (t.peaks store) (t.variations store) headers.result shared.result c.in_ok-data.data (omega arith) headers.ensures.size shared.ensures.size sized.1,
        omega (arith, sized.2),
      );
    }
