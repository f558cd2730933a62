use Rattle.calculus.proofs.Reduction.{determined}
use Rattle.calculus.proofs.determined.Goals as goal

pub returns : goal.returns
returns c = determined
