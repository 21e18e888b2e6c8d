use Rattle.std.proofs.lemmas.Result.{err_from_is_err_and}
use Rattle.reader.proofs.OpenSteps.{table_wrong, Answered, opens, refuses, answered}
use Rattle.reader.proofs.slot.open_glyph.Goals as goal

pub returns-in_err-table : goal.returns-in_err-table
returns-in_err-table c =
    let q = err_from_is_err_and c.from_residual.result c.from_residual.ensures.1 in
    let bs = c.args.bytes.now in
    let g = c.args.glyph in
    let p = c.args.p in
    let a : Answered bs g p c.from_residual.result = rw (q.1, q.2) (table_wrong bs g p _ c.in_err-table.ensures) in
    record { found = opens bs g p c.from_residual.result a; refused = refuses bs g p c.from_residual.result a }

pub returns : goal.returns
returns c =
    let bs = c.args.bytes.now in
    let g = c.args.glyph in
    let p = c.args.p in
    let t = c.in_ok-table.table in
    let e = c.in_ok-table.ensures in
    let a = answered bs t g p c.slot.result e.0 e.1 (c.slot.ensures e.1) in
    record { found = opens bs g p c.slot.result a; refused = refuses bs g p c.slot.result a }
