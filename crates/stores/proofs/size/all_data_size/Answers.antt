use Rattle.std.proofs.Common.{◌∙◌, arith}
use Rattle.stores.specs.Parts.{data_in}
use Rattle.stores.proofs.Joining.{sum_more, sum_all}
use Rattle.stores.proofs.Tests.{data_over, data_within, data_ended}
use Rattle.stores.proofs.size.all_data_size.Goals as goal

pub returns-then-n-gt-MAX_DATA_SIZE : goal.returns-then-n-gt-MAX_DATA_SIZE
returns-then-n-gt-MAX_DATA_SIZE g c =
    let vs = g.T.TupleVariations.variations c.args.store.now in
    record { told = λ k cs. c.loop-j.invariant.2 k cs ∙ data_over k vs c.loop-j.j cs (omega arith) (omega arith) }

pub loop-j-preserved : goal.loop-j-preserved
loop-j-preserved g c =
    let vs = g.T.TupleVariations.variations c.args.store.now in (
      sum_more (data_in vs) vs c.loop-j.j c.loop-j.size c.data_size-n.result _ (omega arith) c.data_size-n.ensures.size c.loop-j.invariant.0,
      omega arith,
      λ k cs. c.loop-j.invariant.2 k cs ∙ data_within k vs c.loop-j.j cs (omega arith) (omega arith),
    )

pub returns : goal.returns
returns g c =
    let vs = g.T.TupleVariations.variations c.args.store.now in
    record {
      told = (
        λ k cs. c.loop-j.invariant.2 k cs ∙ data_ended k vs c.loop-j.j cs (omega arith),
        sum_all (data_in vs) vs c.loop-j.j c.loop-j.size _ (omega arith) c.loop-j.invariant.0,
        omega arith,
      );
    }
