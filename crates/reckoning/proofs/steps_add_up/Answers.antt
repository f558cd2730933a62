use Rattle.reckoning.proofs.Steps.{steps_add_up}
use Rattle.reckoning.proofs.steps_add_up.Goals as goal

pub returns : goal.returns
returns c = steps_add_up
