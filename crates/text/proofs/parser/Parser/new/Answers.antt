use Rattle.std.proofs.Common.{arith}
use Rattle.grammar.proofs.Walking.{went_current}
use Rattle.text.specs.Parsing.{nowhere}
use Rattle.text.specs.Standing.{stand}
use Rattle.text.proofs.Readiness.{went}
use Rattle.text.proofs.parser.Parser.new.Goals as goal

pub invariant_of-result-clause-in_hand : goal.invariant_of-result-clause-in_hand
invariant_of-result-clause-in_hand c =
    let s = c.args.text.now in
    let next = c.in_ok-current.current in
    (went_current s nowhere (stand next) (went s nowhere next (omega arith) c.in_ok-current.ensures)).0
