use Rattle.std.proofs.Common.{rules, tests}
use Rattle.lexer.proofs.Names.{all_name}
use Rattle.lexer.proofs.scan.is_name.Goals as goal

pub returns : goal.returns
returns c =
    all_name c.args.bytes.now c.token.result c.is_ok_and.result (search (rules, tests)) c.token.ensures
    c.is_ok_and.ensures (λ p asked. search (rules, tests))
