use Rattle.calculus.proofs.Principal.{has_general_type}
use Rattle.calculus.proofs.has_general_type.Goals as goal

pub returns : goal.returns
returns c = has_general_type
