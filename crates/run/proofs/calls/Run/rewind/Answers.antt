use Rattle.std.proofs.Common.{◌≡◌, length, sym, ap, ◌∙◌, subst, arith}
use Rattle.std.proofs.lemmas.List.{take_all}
use Rattle.readings.specs.Behind.{numbers_of}
use Rattle.record.specs.Reading.{IsTree}
use Rattle.run.proofs.Standing.{begun_at, begun_keeps}
use Rattle.run.proofs.calls.Run.rewind.Goals as goal

pub invariant_of-self : goal.invariant_of-self
invariant_of-self g c =
    let rule = c.self-inside.invariant in
    let over = rule.2.sendable.over in
    let given = c.if-readings-wanted.false in
    let laid : numbers_of c.begin.new.layer.readings ≡ c.args.readings.now =
    c.begin.ensures.readings ∙ ap (λ r. numbers_of r) c.set_readings.ensures.readings ∙ c.new.ensures
    ∙ take_all 8 c.args.readings.now (omega arith) in
    begun_keeps g.S.Store.lists g.S.Store.whole g.S.Store.room g.S.Store.cost
    (record {
      rule = c.self-inside.inside.0.0.received;
      readings = numbers_of c.begin.new.layer.readings;
      store =
          c.begin.new.layer.below;
      machine = c.begin.new.machine;
    })
    rule.0 rule.1 rule.2 rule.3 (ap (λ rs. length rs) laid ∙ given) (c.begin.ensures.begun rule.0 rule.2)

pub returns-clause-ok : goal.returns-clause-ok
returns-clause-ok g c t is =
    let rule = c.self-inside.invariant in
    let over = rule.2.sendable.over in
    let given = c.if-readings-wanted.false in
    let laid : numbers_of c.begin.new.layer.readings ≡ c.args.readings.now =
    c.begin.ensures.readings ∙ ap (λ r. numbers_of r) c.set_readings.ensures.readings ∙ c.new.ensures
    ∙ take_all 8 c.args.readings.now (omega arith) in
    let seen : c.args.self.now.rule ≡ c.self-inside.inside.0.0.received =
    sym (ap (λ x. x.rule) c.self-inside.view_is ∙ ap (λ x. x.rule) c.self.view_is) in
    let here = subst (λ r. IsTree r t) seen is in
    begun_at g.S.Store.lists g.S.Store.whole g.S.Store.room g.S.Store.cost
    (record {
      rule = c.self-inside.inside.0.0.received;
      readings = numbers_of c.begin.new.layer.readings;
      store =
          c.begin.new.layer.below;
      machine = c.begin.new.machine;
    })
    t c.args.readings.now laid here given (c.begin.ensures.begun t here)
