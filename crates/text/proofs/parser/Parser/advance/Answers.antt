use Rattle.grammar.proofs.Walking.{went_current}
use Rattle.text.specs.Parsing.{at}
use Rattle.text.specs.Standing.{stand}
use Rattle.text.proofs.Readiness.{went}
use Rattle.text.proofs.parser.Parser.advance.Goals as goal

pub invariant_of-self-clause-in_hand : goal.invariant_of-self-clause-in_hand
invariant_of-self-clause-in_hand c =
    let p = c.args.self.now in
    let next = c.in_ok-self.field-0 in
    (went_current p.text.now (at p) (stand next) (went p.text.now (at p) next p.in_hand.inside c.in_ok-self.ensures)).0
