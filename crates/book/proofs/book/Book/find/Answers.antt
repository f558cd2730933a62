use Rattle.std.proofs.Common.{◌≡◌, true, false, [], ◌∙◌, rules, tests}
use Rattle.std.proofs.lemmas.Iterator.{IsFirst-from_position, YieldsList-from_slice}
use Rattle.grammar.specs.Names.{same}
use Rattle.book.specs.Spelled.{spelled}
use Rattle.book.proofs.Finding.{found_first}
use Rattle.book.proofs.book.Book.find.Goals as goal

pub returns : goal.returns
returns c =
    let name = c.args.name.now in
    found_first spelled c.args.self.now.names.items name (record { bytes = record { items = [] } }) c.position.result
    (IsFirst-from_position _ _ _ (λ own. same name (spelled own) ≡ true) (λ own. same name (spelled own) ≡ false)
    c.position.ensures.ran (YieldsList-from_slice c.args.self.now.names.items (c.iter.ensures.rest
    ∙ c.deref.ensures.0)) (λ x q k. search (rules, tests)) (λ x q k. search (rules, tests)))
