use Rattle.std.proofs.Common.{drop, ◌∙◌, rules, tests}
use Rattle.std.proofs.lemmas.Iterator.{IsFirst-from_position, YieldsList-from_slice}
use Rattle.std.proofs.lemmas.List.{take_rest}
use Rattle.lexer.proofs.Running.{Is, IsNot, run_found}
use Rattle.lexer.proofs.run.Kind.run.Goals as goal

pub returns : goal.returns
returns c =
    run_found c.args.self c.args.text.now c.args.from c.requires c.position.result c.map_or.result c.map_or.ensures
    (λ n past. search (rules, tests))
    (IsFirst-from_position _ _ _ (IsNot c.args.self) (Is c.args.self) c.position.ensures.ran
    (YieldsList-from_slice (drop c.args.from c.args.text.now) (c.iter.ensures.rest
    ∙ take_rest c.args.text.now c.args.from)) (λ x q k. search (rules, tests)) (λ x q k. search (rules, tests)))
