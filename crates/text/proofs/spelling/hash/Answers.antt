use Rattle.std.proofs.Common.{rules, tests}
use Rattle.std.proofs.lemmas.Iterator.{YieldsList-from_slice}
use Rattle.std.proofs.lemmas.Iterator.Consumers.{fold_from_yields_List}
use Rattle.text.specs.Spellings.{hash_on}
use Rattle.text.proofs.spelling.hash.Goals as goal

pub returns : goal.returns
returns c =
    fold_from_yields_List _ hash_on 0 c.fold.result c.fold.ensures.ran
    (YieldsList-from_slice c.args.name.now c.iter.ensures.rest) (λ a x b q k. search (rules, tests))
