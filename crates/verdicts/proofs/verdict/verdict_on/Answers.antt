use Rattle.std.proofs.Common.{◌≡◌, ℕ, List, length, take, sym, refl, ◌∙◌, subst, rules, tests}
use Rattle.typing.specs.Accepting.{IsRule}
use Rattle.typing.specs.Faults.{number_of, place_of}
use Rattle.typing.specs.Judging.{Outcome, Judgement, accepted, refused}
use Rattle.verdicts.proofs.verdict.verdict_on.Goals as goal

-- tables and a buffer of these lengths are those that are lent
as_lent : (s : List ℕ) (a b c : ℕ) (o : Outcome) → a ≡ 1538 → b ≡ 1538 → c ≡ 65536 → Judgement s a b c o
    → Judgement s 1538 1538 65536 o
as_lent s a b c o first second types j =
    subst (λ n. Judgement s n 1538 65536 o) first (subst (λ n. Judgement s a n 65536 o) second
    (subst (λ n. Judgement s a b n o) types j))

pub returns : goal.returns
returns c =
    let first : length c.deref_mut.result.now ≡ 1538 = search (rules, tests) in
    let second : length c.deref_mut-2.result.now ≡ 1538 = search (rules, tests) in
    let types : length c.deref_mut-3.result.now ≡ 65536 = search (rules, tests) in
    let why = refused (number_of c.in-Err.fault) (place_of c.in-Err.fault) in
    (refl, as_lent c.args.record.now _ _ _ why first second types c.in-Err.ensures.err)

pub returns-in-Ok : goal.returns-in-Ok
returns-in-Ok c =
    let s = c.args.record.now in
    let told = c.in-Ok.ensures.ok in
    let w = take c.in-Ok.count c.accept.new.types in
    let first : length c.deref_mut.result.now ≡ 1538 = search (rules, tests) in
    let second : length c.deref_mut-2.result.now ≡ 1538 = search (rules, tests) in
    let types : length c.deref_mut-3.result.now ≡ 65536 = search (rules, tests) in
    let judged = as_lent s _ _ _ (accepted told.0 told.1 w) first second types told.2 in
    let rule : IsRule c.rule.inside.received told.0 told.1 = subst (λ x. IsRule x told.0 told.1) (sym c.rule.view_is)
    told.3 in
    let over = subst (λ r. Judgement s 1538 1538 65536 (accepted r told.1 w)) (sym rule.1) judged in
    (told.1, w, over, c.len.ensures.value ∙ rule.0.counted)
