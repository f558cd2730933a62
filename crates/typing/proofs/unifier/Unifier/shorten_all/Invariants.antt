use Rattle.std.proofs.Common.{◌≤◌}
use Rattle.typing.specs.Unifying.{free, Kept}
use Rattle.typing.proofs.unifier.Unifier.shorten_all.Given as goal

abbrev pub invariant-loop-place : goal.invariant-loop-place
invariant-loop-place l = record { kept : Kept l.fn.self l.self; inside : l.place ≤ free l.fn.self }

abbrev pub decreases-loop-place : goal.decreases-loop-place
decreases-loop-place l = l.place
