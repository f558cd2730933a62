use Rattle.std.proofs.Common.{◌≡◌, refl, sym, ap, ◌∙◌, subst}
use Rattle.readings.specs.Behind.{numbers_of, as_values, values_of, behind, cost_below}
use Rattle.reckoning.specs.Reckoning.{Reckoned, reckoned, steps}
use Rattle.machine.specs.Places.{rule_of}
use Rattle.machine.specs.Running.{StandsAt, rooted}
use Rattle.run.specs.Standing.{Seen, IsAt, Keeps}
use Rattle.run.proofs.Layer.{as_values_injective, cost_below_injective}
use Rattle.run.proofs.Standing.{layer_room, Stands, stands_where_at, never_stuck_here, granted_at, granted_keeps}
use Rattle.run.proofs.calls.Run.grant.Goals as goal

pub grant-requires-clause-stands : goal.grant-requires-clause-stands
grant-requires-clause-stands g c =
    let x = c.self-inside.inside in
    let run : Seen g.row.S.Denot = record {
      rule = x.0.0.received;
      readings = numbers_of x.0.1.0.readings;
      store =
          x.0.1.0.below;
      machine = x.0.1.1.0;
    } in
    let k : Keeps g.S.Store.lists g.S.Store.whole g.S.Store.room g.S.Store.cost run =
    subst (λ y. Keeps g.S.Store.lists g.S.Store.whole g.S.Store.room g.S.Store.cost
    (record { rule = y.rule; readings = numbers_of y.layer.readings; store = y.layer.below; machine = y.machine }))
    (sym c.self-inside.view_is) c.self.invariant in
    let room = layer_room g.S.Store.lists g.S.Store.whole g.S.Store.room g.S.Store.cost run in
    let s = reckoned room run.readings k.tree k.granted in
    let stands = stands_where_at g.S.Store.lists g.S.Store.whole g.S.Store.room g.S.Store.cost run k.tree run.readings
    k.granted k.at in (
      rooted 0 run.readings,
      s,
      subst (λ ns. StandsAt (rule_of ns (values_of x.0.1.0.readings)) (behind (values_of x.0.1.0.readings)
          (g.S.Store.lists x.0.1.0.below)) room
          (g.S.Store.room x.0.1.0.below) (rooted 0 run.readings) x.0.1.1.0 s) (sym c.as_slice.ensures.value) stands,
      never_stuck_here g.S.Store.lists g.S.Store.whole g.S.Store.room g.S.Store.cost run k,
    )

pub invariant_of-self : goal.invariant_of-self
invariant_of-self g c =
    let x = c.self-inside.inside in
    let old : Seen g.row.S.Denot = record {
      rule = x.0.0.received;
      readings = numbers_of x.0.1.0.readings;
      store =
          x.0.1.0.below;
      machine = x.0.1.1.0;
    } in
    let new : Seen g.row.S.Denot = record {
      rule = x.0.0.received;
      readings = numbers_of c.grant.new.store.readings;
      store = c.grant.new.store.below;
      machine = c.grant.new.self;
    } in
    let room = layer_room g.S.Store.lists g.S.Store.whole g.S.Store.room g.S.Store.cost old in
    let same_readings = as_values_injective new.readings old.readings c.grant.ensures.base in
    let same_cost = cost_below_injective (values_of x.0.1.0.readings) (g.S.Store.cost new.store)
    (g.S.Store.cost old.store)
    (ap (λ rs. cost_below rs (g.S.Store.cost new.store)) (sym c.grant.ensures.base) ∙ c.grant.ensures.cost) in
    let goes : (s : Reckoned) → Stands g.S.Store.lists g.S.Store.whole g.S.Store.room g.S.Store.cost old s →
    StandsAt (rule_of old.rule.nodes.items (as_values old.readings)) (behind (as_values new.readings)
    (g.S.Store.lists new.store)) room (g.S.Store.room new.store)
    (rooted 0 old.readings) new.machine (steps room c.args.steps s) =
    λ s h. subst (λ ns. StandsAt (rule_of ns (as_values old.readings)) (behind (as_values new.readings)
    (g.S.Store.lists new.store)) room (g.S.Store.room new.store)
    (rooted 0 old.readings) new.machine (steps room c.args.steps s)) c.as_slice.ensures.value
    (c.grant.ensures.goes (rooted 0 old.readings) s
    (subst (λ ns. StandsAt (rule_of ns (as_values old.readings)) (behind (as_values old.readings)
    (g.S.Store.lists old.store)) room (g.S.Store.room old.store)
    (rooted 0 old.readings) old.machine s) (sym c.as_slice.ensures.value) h)) in
    let keeps : Keeps g.S.Store.lists g.S.Store.whole g.S.Store.room g.S.Store.cost old =
    subst (λ y. Keeps g.S.Store.lists g.S.Store.whole g.S.Store.room g.S.Store.cost
    (record { rule = y.rule; readings = numbers_of y.layer.readings; store = y.layer.below; machine = y.machine }))
    (sym c.self-inside.view_is) c.self.invariant in
    granted_keeps g.S.Store.lists g.S.Store.whole g.S.Store.room g.S.Store.cost old new c.args.steps refl same_readings
    c.grant.ensures.whole same_cost goes keeps

pub returns-clause-cost : goal.returns-clause-cost
returns-clause-cost g c =
    let x = c.self-inside.inside in
    cost_below_injective (values_of x.0.1.0.readings) (g.S.Store.cost c.grant.new.store.below)
    (g.S.Store.cost x.0.1.0.below)
    (ap (λ rs. cost_below rs (g.S.Store.cost c.grant.new.store.below)) (sym c.grant.ensures.base)
    ∙ c.grant.ensures.cost) ∙
    ap (λ y. g.S.Store.cost y.layer.below) c.self-inside.view_is ∙ ap (λ y. g.S.Store.cost y.store) c.self.view_is

pub returns-clause-ok : goal.returns-clause-ok
returns-clause-ok g c t readings n at =
    let x = c.self-inside.inside in
    let old : Seen g.row.S.Denot = record {
      rule = x.0.0.received;
      readings = numbers_of x.0.1.0.readings;
      store =
          x.0.1.0.below;
      machine = x.0.1.1.0;
    } in
    let new : Seen g.row.S.Denot = record {
      rule = x.0.0.received;
      readings = numbers_of c.grant.new.store.readings;
      store = c.grant.new.store.below;
      machine = c.grant.new.self;
    } in
    let room = layer_room g.S.Store.lists g.S.Store.whole g.S.Store.room g.S.Store.cost old in
    let same_readings = as_values_injective new.readings old.readings c.grant.ensures.base in
    let same_cost = cost_below_injective (values_of x.0.1.0.readings) (g.S.Store.cost new.store)
    (g.S.Store.cost old.store)
    (ap (λ rs. cost_below rs (g.S.Store.cost new.store)) (sym c.grant.ensures.base) ∙ c.grant.ensures.cost) in
    let goes : (s : Reckoned) → Stands g.S.Store.lists g.S.Store.whole g.S.Store.room g.S.Store.cost old s →
    StandsAt (rule_of old.rule.nodes.items (as_values old.readings)) (behind (as_values new.readings)
    (g.S.Store.lists new.store)) room (g.S.Store.room new.store)
    (rooted 0 old.readings) new.machine (steps room c.args.steps s) =
    λ s h. subst (λ ns. StandsAt (rule_of ns (as_values old.readings)) (behind (as_values new.readings)
    (g.S.Store.lists new.store)) room (g.S.Store.room new.store)
    (rooted 0 old.readings) new.machine (steps room c.args.steps s)) c.as_slice.ensures.value
    (c.grant.ensures.goes (rooted 0 old.readings) s
    (subst (λ ns. StandsAt (rule_of ns (as_values old.readings)) (behind (as_values old.readings)
    (g.S.Store.lists old.store)) room (g.S.Store.room old.store)
    (rooted 0 old.readings) old.machine s) (sym c.as_slice.ensures.value) h)) in
    let seen : c.args.self.now ≡ old =
    sym (ap (λ y. let z : Seen g.row.S.Denot = record {
      rule = y.rule;
      readings = numbers_of y.layer.readings;
      store =
          y.layer.below;
      machine = y.machine;
    } in z)
    c.self-inside.view_is ∙ c.self.view_is) in
    granted_at g.S.Store.lists g.S.Store.whole g.S.Store.room g.S.Store.cost old new c.args.steps refl same_readings
    c.grant.ensures.whole same_cost goes t readings n
    (subst (λ y. IsAt g.S.Store.lists g.S.Store.whole g.S.Store.room g.S.Store.cost y t readings n) seen at)
