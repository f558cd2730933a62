use Rattle.linked.proofs.Telling.{Reached}
use Rattle.linked.proofs.linked.near.Given as goal

abbrev pub invariant-loop-left : goal.invariant-loop-left
invariant-loop-left g l = Reached g.T.Blank.unwritten l.cells l.handle l.index l.at l.left

abbrev pub decreases-loop-left : goal.decreases-loop-left
decreases-loop-left g l = l.left
