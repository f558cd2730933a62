use Rattle.record.proofs.Deciding.{one_reading}
use Rattle.record.proofs.law.one_reading.Goals as goal

pub returns : goal.returns
returns c = one_reading
