use Rattle.calculus.proofs.Figures.{figures}
use Rattle.calculus.proofs.steps_of_thrice_seven.Goals as goal

pub returns : goal.returns
returns c = figures.thrice_seven
