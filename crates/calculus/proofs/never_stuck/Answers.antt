use Rattle.calculus.proofs.Safety.{never_stuck}
use Rattle.calculus.proofs.never_stuck.Goals as goal

pub returns : goal.returns
returns c = never_stuck
