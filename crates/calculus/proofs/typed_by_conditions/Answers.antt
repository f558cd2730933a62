use Rattle.calculus.proofs.Conditions.{typed_by_conditions}
use Rattle.calculus.proofs.typed_by_conditions.Goals as goal

pub returns : goal.returns
returns c = typed_by_conditions
