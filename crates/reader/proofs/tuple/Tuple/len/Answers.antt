use Rattle.reader.proofs.TupleSteps.{length_words}
use Rattle.reader.proofs.tuple.Tuple.len.Goals as goal

pub returns : goal.returns
returns c = length_words c.args.self.now.part.now
