use Rattle.record.proofs.Telling.{one_tree}
use Rattle.record.proofs.law.one_tree.Goals as goal

pub returns : goal.returns
returns c = one_tree
