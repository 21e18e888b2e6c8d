use Rattle.std.proofs.Common.{sym}
use Rattle.tuples.proofs.Words.{length_words}
use Rattle.tuples.proofs.tuple.TupleFontWrite.size.Goals as goal

pub returns : goal.returns
returns c = sym (length_words c.args.self.now.values.now)
