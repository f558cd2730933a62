use Rattle.grammar.proofs.Judging.{one_tree}
use Rattle.grammar.proofs.one_tree.Goals as goal

pub returns : goal.returns
returns c = one_tree
