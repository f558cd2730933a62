use Rattle.std.proofs.Common.{sym, subst, refl}
use Rattle.machine.specs.Reducing.{room_of}
use Rattle.machine.specs.Going.{Goes, Lessens}
use Rattle.machine.proofs.Extents.{as_many_open}
use Rattle.machine.proofs.Entering.{hand, opened, opening_goes_on}
use Rattle.machine.proofs.operand.operand.Goals as goal
use Rattle.machine.specs.Places.{rule_of}

pub leaf-requires : goal.leaf-requires
leaf-requires g c =
    let o = c.requires.opening in
    opening_goes_on (rule_of c.args.nodes.now (g.W.Store.base c.args.store.now)) (g.W.Store.lists c.args.store.now)
    c.args.table.now.ops c.args.table.now.depth c.args.op c.args.place c.args.environment o.0 o.1 o.2

pub ready-requires-clause-hand : goal.ready-requires-clause-hand
ready-requires-clause-hand g c =
    let o = c.requires.opening in (
      o.0,
      hand (rule_of c.args.nodes.now (g.W.Store.base c.args.store.now)) (g.W.Store.lists c.args.store.now)
          c.args.table.now.ops c.args.table.now.depth c.args.op c.args.place c.args.environment o.0 o.1 c.in-Some.value
          (c.in-Some.ensures.value o.1.term o.1.env o.1.at o.1.environment),
      o.2,
    )

pub returns-in-Some-clause-goes : goal.returns-in-Some-clause-goes
returns-in-Some-clause-goes g c w o =
    c.ready.ensures.goes w (hand (rule_of c.args.nodes.now (g.W.Store.base c.args.store.now))
    (g.W.Store.lists c.args.store.now) c.args.table.now.ops c.args.table.now.depth c.args.op c.args.place
    c.args.environment w o c.in-Some.value (c.in-Some.ensures.value o.term o.env o.at o.environment))

pub returns-in-None-clause-goes : goal.returns-in-None-clause-goes
returns-in-None-clause-goes g c w o =
    subst (λ r. Goes (rule_of c.args.nodes.now (g.W.Store.base c.args.store.now))
    (room_of (g.W.Store.whole c.args.store.now) (g.W.Store.cost c.args.store.now))
    (g.W.Store.lists c.args.store.now) (g.W.Store.lists c.args.store.now) (g.W.Store.room c.args.store.now)
    (g.W.Store.room c.args.store.now) c.args.left c.open.new.table r w) (sym c.open.ensures.next) (
      λ h. refl,
      refl,
      opened (rule_of c.args.nodes.now (g.W.Store.base c.args.store.now))
          (g.W.Store.lists c.args.store.now) c.args.table.now.ops c.args.table.now.depth c.args.op c.args.place
          c.args.environment w o c.open.new.table c.open.ensures.ops c.open.ensures.depth,
    )

pub returns-in-None-clause-lessens : goal.returns-in-None-clause-lessens
returns-in-None-clause-lessens g c k less =
    subst (λ r. Lessens c.args.nodes.now c.open.new.table r k) (sym c.open.ensures.next)
    (as_many_open (rule_of c.args.nodes.now (g.W.Store.base c.args.store.now)) c.args.table.now c.open.new.table
    c.args.op c.args.place k c.requires.ready c.open.ensures.ops c.open.ensures.depth less)
