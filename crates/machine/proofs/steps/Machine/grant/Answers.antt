use Rattle.std.proofs.Common.{refl, arith}
use Rattle.machine.specs.Reducing.{room_of}
use Rattle.machine.proofs.Granting.{stopped}
use Rattle.machine.proofs.Going.{on_the_way}
use Rattle.machine.proofs.steps.Machine.grant.Goals as goal
use Rattle.machine.specs.Places.{rule_of}

pub returns-in_default : goal.returns-in_default
returns-in_default g c =
    record {
      goes = λ root s h. stopped (rule_of c.args.nodes.now (g.W.Store.base c.args.store.now))
          (g.W.Store.lists c.args.store.now) (room_of (g.W.Store.whole c.args.store.now)
          (g.W.Store.cost c.args.store.now)) (g.W.Store.room c.args.store.now) root c.args.self.now s 0 c.args.granted
          (omega arith) c.in_default.not-Waiting h;
      base = refl;
      whole = refl;
      cost = refl;
    }

pub walk-requires : goal.walk-requires
walk-requires g c =
    let h = c.requires.stands in
    record {
      low = c.requires.low;
      goes_on = (
        h.0,
        h.1,
        on_the_way (rule_of c.args.nodes.now (g.W.Store.base c.args.store.now))
            (g.W.Store.lists c.args.store.now) (room_of (g.W.Store.whole c.args.store.now)
            (g.W.Store.cost c.args.store.now)) (g.W.Store.room c.args.store.now) h.0 c.args.self.now h.1 c.in-Waiting.is
            h.2,
        λ n few. h.3 n,
      );
    }

pub returns-clause-goes : goal.returns-clause-goes
returns-clause-goes g c root s h =
    c.walk.ensures.goes root s (on_the_way (rule_of c.args.nodes.now (g.W.Store.base c.args.store.now))
    (g.W.Store.lists c.args.store.now) (room_of (g.W.Store.whole c.args.store.now)
    (g.W.Store.cost c.args.store.now)) (g.W.Store.room c.args.store.now) root c.args.self.now s c.in-Waiting.is h)
    h.counted
