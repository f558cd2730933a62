use Rattle.std.proofs.Common.{◌≡◌, length, min, pos, ap, ◌∙◌, subst, arith}
use Rattle.std.proofs.lemmas.List.{length-replicate}
use Rattle.readings.specs.Behind.{numbers_of}
use Rattle.record.specs.Reading.{IsTree}
use Rattle.record.proofs.Telling.{one_tree}
use Rattle.calculus.specs.Types.{RuleHas}
use Rattle.run.proofs.Standing.{begun_keeps}
use Rattle.run.proofs.calls.Run.start.Goals as goal

pub invariant_of-result : goal.invariant_of-result
invariant_of-result g c =
    let rule = c.rule.invariant in
    let is : IsTree c.args.rule rule.0 = subst (λ r. IsTree r rule.0) c.rule.view_is rule.2 in
    let typed : RuleHas c.args.rule.readings rule.0 rule.1 = subst (λ r. RuleHas r.readings rule.0 rule.1)
    c.rule.view_is rule.3 in
    let over = rule.2.sendable.over in
    let few : min 8 c.rule.inside.received.readings ≡ c.rule.inside.received.readings = omega arith in
    let many : length (numbers_of c.begin.new.layer.readings) ≡ c.args.rule.readings =
    ap (λ rs. length rs) (c.begin.ensures.readings ∙ ap (λ r. numbers_of r) c.new-layer.ensures.readings
    ∙ c.zeros.ensures) ∙
    length-replicate (min 8 c.rule.inside.received.readings) (pos 0) ∙ few ∙ ap (λ r. r.readings) c.rule.view_is in
    begun_keeps g.S.Store.lists g.S.Store.whole g.S.Store.room g.S.Store.cost
    (record {
      rule = c.args.rule;
      readings = numbers_of c.begin.new.layer.readings;
      store =
          c.begin.new.layer.below;
      machine = c.begin.new.machine;
    })
    rule.0 rule.1 is typed many (c.begin.ensures.begun rule.0 is)

pub returns-clause-typed : goal.returns-clause-typed
returns-clause-typed g c r t is =
    let rule = c.rule.invariant in
    let here = subst (λ x. IsTree x rule.0) c.rule.view_is rule.2 in
    let typed = subst (λ x. RuleHas x.readings rule.0 rule.1) c.rule.view_is rule.3 in (
      rule.1,
      subst (λ u. RuleHas r u rule.1) (one_tree c.args.rule rule.0 t here is.0)
          (subst (λ n. RuleHas n rule.0 rule.1) is.1 typed),
    )
