use Rattle.std.proofs.Common.{◌∙◌, rules, tests, arith}
use Rattle.std.proofs.lemmas.Iterator.{YieldsList-from_slice}
use Rattle.std.proofs.lemmas.Iterator.Consumers.{fold_from_yields_List}
use Rattle.lexer.proofs.Decimals.{one_more, fold_min}
use Rattle.lexer.proofs.number.magnitude.Goals as goal

pub returns : goal.returns
returns c =
    fold_from_yields_List _ one_more 0 c.fold.result c.fold.ensures.ran
    (YieldsList-from_slice c.args.digits.now c.iter.ensures.rest) (λ a x b q k. search (rules, tests))
    ∙ fold_min c.args.digits.now 0 (omega arith)
