use Rattle.calculus.proofs.Figures.{figures}
use Rattle.calculus.proofs.figures_stand.Goals as goal

pub returns : goal.returns
returns c = figures
