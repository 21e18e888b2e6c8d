use Rattle.std.proofs.Common.{length, ap, arith, rules}
use Rattle.tuples.proofs.Headers.{words_most}
use Rattle.tuples.proofs.header.tuple_if.Goals as goal

pub returns-clause-bytes : goal.returns-clause-bytes
returns-clause-bytes c = search rules

pub returns-clause-most : goal.returns-clause-most
returns-clause-most c = omega (arith, ap length (returns-clause-bytes c), words_most c.args.stored c.args.values.now)
