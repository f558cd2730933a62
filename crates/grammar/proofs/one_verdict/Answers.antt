use Rattle.grammar.proofs.Once.{one_verdict}
use Rattle.grammar.proofs.one_verdict.Goals as goal

pub returns : goal.returns
returns c = one_verdict
