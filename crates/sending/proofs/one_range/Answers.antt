use Rattle.sending.proofs.Ranges.{one_range}
use Rattle.sending.proofs.one_range.Goals as goal

pub returns : goal.returns
returns c = one_range
