use Rattle.std.proofs.Common.{ℕ, ◌-◌, ◌*◌, ◌≤◌, ap, mul-le-mul, arith}
use Rattle.sets.specs.OfSet.{glyphs_of}
use Rattle.counting.proofs.Views.{size_shown, size_most}
use Rattle.counting.proofs.point_sets.PointSetsRanked.score.Goals as goal

pub overflow_mul-result : goal.overflow_mul-result
overflow_mul-result c =
    let s = c.args.self.now in
    let v = c.view-points.result in
    let m : v.stored.points ≤ 98303 = size_most (glyphs_of s.set.now) s.span c.args.first c.requires.inside s.within _ v c.view-points.ensures in
    let f = s.few.0 in
    let q = c.requires.most in
    let n : c.args.count - 1 ≤ 4095 = omega arith in
    let k : (c.args.count - 1) * v.stored.points ≤ 4095 * 98303 = mul-le-mul n m in
    omega arith

pub returns : goal.returns
returns c =
    let s = c.args.self.now in
    ap (λ (k : ℕ). (c.args.count - 1) * k) (size_shown (glyphs_of s.set.now) s.span c.args.first c.requires.inside s.within _ c.view-points.result c.view-points.ensures)
