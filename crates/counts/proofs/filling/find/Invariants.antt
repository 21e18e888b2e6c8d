use Rattle.links.specs.Links.{linked}
use Rattle.counts.specs.Chains.{Walk}
use Rattle.counts.proofs.Walks.{steps_left}
use Rattle.counts.proofs.filling.find.Given as goal

abbrev pub invariant-loop-j : goal.invariant-loop-j
invariant-loop-j g l = Walk (g.I.Items.alike l.items) (g.I.Items.code l.items) (g.I.Items.size l.items) l.i (linked l.at)

abbrev pub decreases-loop-j : goal.decreases-loop-j
decreases-loop-j g l = steps_left (linked l.at)
