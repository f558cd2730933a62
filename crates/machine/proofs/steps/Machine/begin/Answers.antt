use Rattle.std.proofs.Common.{◌≡◌, ◌≢◌, refl, subst, arith}
use Rattle.reckoning.specs.Moves.{move, stuck}
use Rattle.reckoning.specs.Reckoning.{begun, steps}
use Rattle.machine.specs.Reducing.{room_of}
use Rattle.machine.specs.Running.{StandsAt, rooted}
use Rattle.machine.proofs.Beginning.{begins_on_the_way}
use Rattle.machine.proofs.steps.Machine.begin.Goals as goal
use Rattle.machine.specs.Places.{rule_of}

pub walk-requires : goal.walk-requires
walk-requires g c =
    let b = c.requires in
    record {
      low = omega arith;
      goes_on = (
        rooted c.args.environment b.1,
        begun b.1 b.0,
        begins_on_the_way (rule_of c.args.nodes.now (g.W.Store.base c.args.store.now))
            (g.W.Store.lists c.args.store.now) (g.W.Store.whole c.args.store.now) (g.W.Store.room c.args.store.now)
            c.args.environment b.0 b.1 b.2
            (g.W.Store.cost c.args.store.now) c.clear.new.self c.clear.ensures,
        λ n few. let none : 0 ≡ n = omega arith in
            subst (λ k. move (steps (room_of (g.W.Store.whole c.args.store.now) (g.W.Store.cost c.args.store.now)) k
            (begun b.1 b.0)).work ≢ stuck) none b.3,
      );
    }

pub returns-clause-stands : goal.returns-clause-stands
returns-clause-stands g c t readings b =
    subst (λ st. StandsAt (rule_of c.args.nodes.now (g.W.Store.base c.args.store.now)) (g.W.Store.lists st)
    (room_of (g.W.Store.whole c.args.store.now) (g.W.Store.cost c.args.store.now)) (g.W.Store.room st)
    (rooted c.args.environment readings) c.walk.new.self (begun readings t))
    (c.walk.ensures.still refl)
    (c.walk.ensures.goes (rooted c.args.environment readings) (begun readings t)
    (begins_on_the_way (rule_of c.args.nodes.now (g.W.Store.base c.args.store.now)) (g.W.Store.lists c.args.store.now)
    (g.W.Store.whole c.args.store.now) (g.W.Store.room c.args.store.now) c.args.environment t readings b
    (g.W.Store.cost c.args.store.now) c.clear.new.self c.clear.ensures) refl)
