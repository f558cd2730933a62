use Rattle.calculus.proofs.Ending.{has_length}
use Rattle.calculus.proofs.has_length.Goals as goal

pub returns : goal.returns
returns c = has_length
