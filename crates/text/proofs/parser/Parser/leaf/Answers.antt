use Rattle.std.proofs.Common.{◌≡◌, true, false, ◌++◌, refl, sym, ap, subst, rules, tests}
use Rattle.syntax.specs.Tree.{Tree}
use Rattle.grammar.specs.declared.Mark.TheVariants.{True, False}
use Rattle.grammar.specs.Grammar.{boolean}
use Rattle.grammar.specs.Token as plain
use Rattle.book.specs.Books.{names}
use Rattle.lexer.specs.Shown.{shown, value}
use Rattle.text.specs.Parsing.{leaf, at, Single}
use Rattle.text.specs.Scopes.{open_names}
use Rattle.text.proofs.Leaves.{number_single, name_single}
use Rattle.text.proofs.parser.Parser.leaf.Goals as goal

pub returns-in-Mark-True : goal.returns-in-Mark-True
returns-in-Mark-True c = let e : shown c.args.self.now.current.token ≡ plain.mark True = search rules
    in (boolean true, Tree.truth true, ap leaf e, refl, refl)

pub returns-in-Mark-False : goal.returns-in-Mark-False
returns-in-Mark-False c = let e : shown c.args.self.now.current.token ≡ plain.mark False = search rules
    in (boolean false, Tree.truth false, ap leaf e, refl, refl)

pub returns-in-Number : goal.returns-in-Number
returns-in-Number c =
    let all = open_names c.args.scope.now ++ names c.args.self.now.book.now in
    let p = at c.args.self.now in
    subst (Single all p) (sym c.ok_or.ensures.value) (number_single all p (value c.in-Number.spelled.now) _ _
    c.amount.result c.map.result _ (ap shown c.in-Number.is) c.args.self.now.in_hand.in_range c.amount.ensures
    c.map.ensures.cases (λ k is made. search (rules, tests)))

pub returns-in-Name : goal.returns-in-Name
returns-in-Name c =
    let all = open_names c.args.scope.now ++ names c.args.self.now.book.now in
    let p = at c.args.self.now in
    subst (Single all p) (sym c.ok_or-in-Name.ensures.value)
    (name_single all p c.in-Name.name.now _ _ c.distance.result c.map-in-Name.result _ (ap shown c.in-Name.is)
    refl refl c.distance.ensures c.map-in-Name.ensures.cases (λ no. no) (λ d made. search (rules, tests)))
