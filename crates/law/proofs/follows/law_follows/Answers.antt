use Rattle.law.proofs.Following.{follows}
use Rattle.law.proofs.follows.law_follows.Goals as goal

pub returns : goal.returns
returns g = follows
