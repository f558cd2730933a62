use Rattle.figures.proofs.Figures.{figures_stand}
use Rattle.figures.proofs.figures_stand.Goals as goal

pub returns : goal.returns
returns c = figures_stand
