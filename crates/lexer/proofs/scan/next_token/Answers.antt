use Rattle.std.proofs.Common.{min, length, ap, subst}
use Rattle.std.proofs.lemmas.Result.{err_from_is_err_and}
use Rattle.grammar.specs.Reading.{Next}
use Rattle.grammar.specs.Walking.{no_range}
use Rattle.lexer.specs.Shown.{shown, value}
use Rattle.lexer.proofs.Amounting.{amount_none}
use Rattle.lexer.proofs.Lexemes.{refused_part}
use Rattle.lexer.proofs.scan.next_token.Goals as goal

pub returns-in_err-next : goal.returns-in_err-next
returns-in_err-next c =
    let p = err_from_is_err_and c.from_residual.result c.from_residual.ensures.1 in
    rw (p.1, p.2) (refused_part _ _ _ c.in_err-next.ensures)

pub returns-in-Number : goal.returns-in-Number
returns-in-Number c =
    let s = c.args.text.now in
    let p = c.in_ok-next.next in
    no_range (subst (λ t. Next s (min c.args.from (length s)) t p.place p.stop) (ap shown c.in-Number.is)
    c.in_ok-next.ensures.0) (amount_none (value c.in-Number.spelled.now) c.amount.result c.amount.ensures
    c.if-is_none.ensures)
