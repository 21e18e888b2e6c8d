use Rattle.std.proofs.Common.{◌+◌, Some, None, sym, refl, ap, ◌∙◌}
use Rattle.std.proofs.lemmas.Result.{err_from_is_err_and}
use Rattle.format.specs.Glyphs.{listed}
use Rattle.format.specs.Reader.{checked, offset_condition}
use Rattle.format.specs.Reader.{word_at}
use Rattle.reader.specs.Tables.{head_conditions}
use Rattle.format.specs.Reader.{in_table}
use mathlib.Core.Option.{some}
use Rattle.slots.proofs.SlotSteps.{first_some}
use Rattle.reader.proofs.TableSteps.{table_by}
use Rattle.reader.proofs.table.Table.check.Goals as goal

pub returns-in_err-head : goal.returns-in_err-head
returns-in_err-head c =
    let q = err_from_is_err_and c.from_residual.result c.from_residual.ensures.1 in
    let bs = c.args.bytes.now in
    rw (q.1, q.2) (first_some (head_conditions bs) (listed 0 (word_at bs 12 + 1) (offset_condition (checked bs))) _ c.in_err-head.ensures)

pub returns-in-Some : goal.returns-in-Some
returns-in-Some c =
    let e = c.in_ok-head.ensures in
    table_by c.args.bytes.now c.in_ok-head.head (Some c.in-Some.i) e.0 e.1 c.in-Some.ensures ∙ ap (λ x. some (in_table 19 x)) (sym c.offset_place.ensures)

pub returns-in-None : goal.returns-in-None
returns-in-None c =
    let e = c.in_ok-head.ensures in
    (refl, record { no_fault = table_by c.args.bytes.now c.in_ok-head.head None e.0 e.1 c.in-None.ensures; its_head = e.0 })
