use Rattle.calculus.proofs.Figures.{figures}
use Rattle.calculus.proofs.first_sum_out_of_range.Goals as goal

pub returns : goal.returns
returns c = figures.sum_right_first
