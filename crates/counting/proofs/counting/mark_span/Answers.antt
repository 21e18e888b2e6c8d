use Rattle.std.proofs.Common.{◌≡◌, ◌+◌, ◌-◌, ◌≤◌, length, drop, ◌∙◌, arith, length-drop, length-take-le}
use Rattle.counting.proofs.Parts.{put_keeps}
use Rattle.counting.proofs.counting.mark_span.Goals as goal

pub returns-clause-rest : goal.returns-clause-rest
returns-clause-rest c =
    let a = c.args.span.first in
    let k = a + c.args.span.count - a in
    let xs = c.args.cells.now in
    let within : a + k ≤ length xs = omega (arith, c.requires.within) in
    let rest : k ≤ length (drop a xs) = let d = length-drop a xs in omega arith in
    let long : length c.mark_part.new.cells ≡ k = c.mark_part.auto.cells ∙ length-take-le k (drop a xs) rest in
    put_keeps xs c.mark_part.new.cells a k within long c.mark_part.ensures.rest
