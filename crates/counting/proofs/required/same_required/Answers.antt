use Rattle.std.proofs.Common.{◌≡◌, refl, arith, rules, tests}
use Rattle.std.proofs.lemmas.Iterator.{cases_from_all, YieldsList-from_range}
use Rattle.counting.specs.PointSets.{required_at}
use Rattle.counting.proofs.Flags.{same_from_all}
use Rattle.counting.proofs.required.same_required.Goals as goal

pub returns : goal.returns
returns c =
    let a = c.args.a.now in
    let b = c.args.b.now in
    let n = c.max-n.result in
    same_from_all a b n c.all.result (omega arith) (omega arith)
    (cases_from_all _ _ _ (λ k. required_at a k ≡ required_at b k) (λ k. required_at a k ≡ required_at b k → ⊥) c.all.ensures.ran (YieldsList-from_range 0 n n refl (omega arith))
    (λ x q k. search (rules, tests)) (λ x q k. search (rules, tests)))
