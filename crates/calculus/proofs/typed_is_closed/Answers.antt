use Rattle.calculus.proofs.Typing.{typed_is_closed}
use Rattle.calculus.proofs.typed_is_closed.Goals as goal

pub returns : goal.returns
returns c = typed_is_closed
