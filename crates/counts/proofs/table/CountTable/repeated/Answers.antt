use Rattle.std.proofs.Common.{take, ◌∙◌, arith, length-take-le}
use Rattle.counts.specs.Marking.{repeats_in}
use Rattle.counts.proofs.Classes.{count_le}
use Rattle.counts.proofs.Fronts.{filled_front}
use Rattle.counts.proofs.Led.{repeated_is, repeated_first}
use Rattle.counts.proofs.table.CountTable.repeated.Goals as goal

pub returns-clause-value : goal.returns-clause-value
returns-clause-value c = λ same t.
    let n = c.args.n in
    let cells = c.args.self.now.cells.now in
    c.count_repeated.ensures ∙ repeated_first n (take n cells) (length-take-le n cells t.long) ∙ repeated_is (filled_front t)

pub returns-clause-few : goal.returns-clause-few
returns-clause-few c =
    let n = c.args.n in
    let cells = c.args.self.now.cells.now in
    let e = repeated_first n (take n cells) (length-take-le n cells (omega arith)) in
    omega (arith, e, count_le n (repeats_in (take n cells)))
