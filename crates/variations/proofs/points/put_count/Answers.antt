use Rattle.std.proofs.Common.{◌≡◌, [], ◌∷◌, get_or, ap, ◌∙◌, arith}
use Rattle.std.proofs.lemmas.Bool.{cond-true, le-leb}
use Rattle.format.specs.Packed.{count_bytes}
use Rattle.write.proofs.Feeding.{fed_whole}
use Rattle.variations.proofs.points.put_count.Goals as goal

pub returns-then-count-le127 : goal.returns-then-count-le127
returns-then-count-le127 g c =
    let k = c.args.count in
    let is : count_bytes k ≡ k ∷ [] = cond-true _ _ _ (le-leb k 127 c.if-count-le127.true) in
    let low : get_or c.to_be_bytes.result 7 0 ≡ k = ap (λ l. get_or l 7 0) c.to_be_bytes.ensures ∙ omega arith in
    rw is (fed_whole c.take.result (rw low at c.take.ensures))
