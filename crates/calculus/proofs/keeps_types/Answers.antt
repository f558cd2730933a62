use Rattle.calculus.proofs.Safety.{keeps_types}
use Rattle.calculus.proofs.keeps_types.Goals as goal

pub returns : goal.returns
returns c = keeps_types
