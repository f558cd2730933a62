use Rattle.std.proofs.Common.{◌≡◌, length, sym, ap, ◌∙◌, subst}
use Rattle.readings.specs.Behind.{numbers_of, values_of, behind, cost_below}
use Rattle.calculus.specs.Types.{RuleHas}
use Rattle.machine.specs.Running.{Begins, StandsAt, rooted}
use Rattle.machine.specs.Places.{rule_of}
use Rattle.machine.specs.Reducing.{room_of}
use Rattle.machine.proofs.Beginning.{never_stuck}
use Rattle.reckoning.specs.Reckoning.{begun}
use Rattle.run.proofs.Layer.{as_values_injective, cost_below_injective, cleared_begins}
use Rattle.run.proofs.calls.begin.Goals as goal

pub begin-requires : goal.begin-requires
begin-requires g c =
    let rule = c.rule.invariant in
    let readings = numbers_of c.clear.new.self.readings in
    let begins =
    cleared_begins (behind (values_of c.clear.new.self.readings) (g.S.Store.lists c.clear.new.self.below))
    (g.S.Store.whole c.clear.new.self.below) (g.S.Store.room c.clear.new.self.below) c.rule.inside.received rule.0
    readings rule.2
    c.clear.ensures.cleared in
    let same = as_values_injective readings (numbers_of c.args.layer.now.readings) c.clear.ensures.base in
    let many : length readings ≡ c.rule.inside.received.readings =
    ap (λ rs. length rs) same ∙ c.requires.as_many ∙ sym (ap (λ r. r.readings) c.rule.view_is) in
    let typed = subst (λ n. RuleHas n rule.0 rule.1) (sym many) rule.3 in (
      rule.0,
      readings,
      subst (λ ns. Begins (rule_of ns (values_of c.clear.new.self.readings))
          (behind (values_of c.clear.new.self.readings) (g.S.Store.lists c.clear.new.self.below))
          (g.S.Store.whole c.clear.new.self.below) (g.S.Store.room c.clear.new.self.below) 0 rule.0 readings)
          (sym c.as_slice.ensures.value) begins,
      never_stuck (room_of 0 (λ n. n)) rule.0 rule.1 readings typed 0,
    )

pub returns-clause-begun : goal.returns-clause-begun
returns-clause-begun g c t is =
    let readings = numbers_of c.clear.new.self.readings in
    let items : c.args.rule.now.nodes.items ≡ c.as_slice.result.now =
    sym (ap (λ r. r.nodes.items) c.rule.view_is) ∙ sym c.as_slice.ensures.value in
    let lists = behind (values_of c.clear.new.self.readings) (g.S.Store.lists c.clear.new.self.below) in
    let whole = g.S.Store.whole c.clear.new.self.below in
    let room = g.S.Store.room c.clear.new.self.below in
    let begins = cleared_begins lists whole room c.args.rule.now t readings is c.clear.ensures.cleared in
    let stands = subst (λ ns. StandsAt (rule_of ns (values_of c.clear.new.self.readings)) lists
    (room_of whole (cost_below (values_of c.clear.new.self.readings) (g.S.Store.cost c.clear.new.self.below)))
    room
    (rooted 0 readings) c.begin.new.self (begun readings t)) (sym items)
    (c.begin.ensures.stands t readings (subst (λ ns. Begins (rule_of ns (values_of c.clear.new.self.readings)) lists
    whole room 0 t readings) items begins)) in
    subst (λ l. StandsAt (rule_of c.args.rule.now.nodes.items (values_of l.readings)) (behind (values_of l.readings)
    (g.S.Store.lists l.below))
    (room_of (g.S.Store.whole l.below) (cost_below (values_of l.readings) (g.S.Store.cost l.below)))
    (g.S.Store.room l.below)
    (rooted 0 (numbers_of l.readings)) c.begin.new.self (begun (numbers_of l.readings) t)) (sym c.begin.ensures.store)
    stands

pub returns-clause-readings : goal.returns-clause-readings
returns-clause-readings g c =
    ap (λ l. numbers_of l.readings) c.begin.ensures.store ∙ as_values_injective (numbers_of c.clear.new.self.readings)
    (numbers_of c.args.layer.now.readings) c.clear.ensures.base

pub returns-clause-cost : goal.returns-clause-cost
returns-clause-cost g c =
    ap (λ l. g.S.Store.cost l.below) c.begin.ensures.store
    ∙ cost_below_injective (values_of c.args.layer.now.readings) (g.S.Store.cost c.clear.new.self.below)
    (g.S.Store.cost c.args.layer.now.below)
    (ap (λ rs. cost_below rs (g.S.Store.cost c.clear.new.self.below)) (sym c.clear.ensures.base) ∙ c.clear.ensures.cost)
