use Rattle.std.proofs.Common.{arith}
use Rattle.syntax.proofs.Lengths.{record_at_most}
use Rattle.syntax.proofs.limits.most_record.Goals as goal

pub returns : goal.returns
returns c = λ r t few. omega (arith, record_at_most r t)
