use Rattle.calculus.proofs.Safety.{value_belongs}
use Rattle.calculus.proofs.value_belongs.Goals as goal

pub returns : goal.returns
returns c = value_belongs
