use Rattle.std.proofs.Common.{arith}
use Rattle.tuples.proofs.Headers.{header_size}
use Rattle.tuples.proofs.header.TupleVariationHeaderFontWrite.size.Goals as goal

pub returns : goal.returns
returns c =
    let h = c.args.self.now in
    let whole =
    header_size h.variation_data_size h.index h.region h.shared h.peak.now h.start.now h.end.now _ c.is_none.ensures _ _ _ c.tuple_if.ensures.bytes c.tuple_if-2.ensures.bytes c.tuple_if-3.ensures.bytes in
    omega (arith, whole, c.size-peak.ensures, c.size-start.ensures, c.size-end.ensures)
