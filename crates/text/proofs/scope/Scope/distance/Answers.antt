use Rattle.std.proofs.Common.{◌++◌, sym, ◌∙◌, subst, rules, tests, arith, length-append}
use Rattle.book.specs.Books.{names, Found}
use Rattle.book.proofs.Finding.{distance-<}
use Rattle.book.proofs.Naming.{names_few}
use Rattle.text.specs.Scopes.{open_names}
use Rattle.text.proofs.Opening.{behind_scope, found_narrowed, length_open}
use Rattle.text.proofs.scope.Scope.distance.Goals as goal

pub or_else-requires : goal.or_else-requires
or_else-requires c =
    λ _ _ _ _ _ _ find _ reading is _ _ _ _ _.
    let all = names c.args.book.now in
    let x = c.args.name.now in
    omega (
      arith,
      c.len-open.ensures.fits,
      names_few c.args.book.now,
      distance-< all x reading (subst (Found all x) is find.ensures),
    )

pub map-requires : goal.map-requires
map-requires c =
    λ d is _ _.
    let x = c.args.name.now in
    let xs = open_names c.args.self.now in
    let ys = names c.args.book.now in
    let long = c.len-open.ensures.value ∙ sym (length_open c.args.self.now) in
    let found = behind_scope c.args.self.now ys x _ _ _ _ c.len-open.ensures.value c.find.ensures c.or_else.ensures
    (λ post. search (rules, tests)) in
    let low = distance-< (xs ++ ys) x d (subst (Found (xs ++ ys) x) is found) in
    omega (arith, c.len-open.ensures.fits, long, names_few c.args.book.now, length-append xs ys, low)

pub returns : goal.returns
returns c =
    let x = c.args.name.now in
    let ys = names c.args.book.now in
    let found = behind_scope c.args.self.now ys x _ _ _ _ c.len-open.ensures.value c.find.ensures c.or_else.ensures
    (λ post. search (rules, tests)) in
    found_narrowed _ x _ _ _ c.map.result found c.map.ensures.cases (λ no. no) (λ d made. search (rules, tests))
