use Rattle.calculus.proofs.General.{spelling_tells}
use Rattle.calculus.proofs.spelling_tells.Goals as goal

pub returns : goal.returns
returns c = spelling_tells
