use Rattle.std.proofs.Common.{arith}
use Rattle.std.proofs.lemmas.Grind.{common_steps}
use Rattle.format.specs.Ranked.{is_first}
use Rattle.counts.proofs.Classes.{count_le}
use Rattle.counts.proofs.table.CountTable.ranked.Goals as goal

pub returns-clause-value : goal.returns-clause-value
returns-clause-value c = λ n same score t l. let few = count_le n (is_first n same) in let long = t.long in let order = t.orders c.args.rank l in grind (arith, common_steps)
