use Rattle.std.proofs.Common.{sym, subst, refl, arith}
use Rattle.machine.specs.Opens.{IsOperation}
use Rattle.machine.proofs.Placing.{at_inside, some_nodes}
use Rattle.machine.proofs.Entering.{found, over}
use Rattle.machine.proofs.Extents.{at_extent}
use Rattle.machine.proofs.Fusing.{met_goes_on, is_operation, no_operation}
use Rattle.machine.proofs.seek.enter.Goals as goal
use Rattle.machine.specs.Places.{rule_of}

pub node-requires : goal.node-requires
node-requires g c = let m = c.requires.meets.1 in
    at_inside (rule_of c.args.nodes.now (g.W.Store.base c.args.store.now)) _ c.args.place m.term m.at

pub leaf-requires : goal.leaf-requires
leaf-requires g c =
    let m = c.requires.meets in
    met_goes_on (rule_of c.args.nodes.now (g.W.Store.base c.args.store.now)) (g.W.Store.lists c.args.store.now)
    c.args.table.now c.args.place c.args.environment m.0 m.1 m.2

pub unreachable-requires : goal.unreachable-requires
unreachable-requires g c = no_operation c.node.result c.in-Number.is (subst IsOperation (sym c.node.ensures)
    (c.in-None.ensures.operation refl))

pub returns-in-Some-clause-goes : goal.returns-in-Some-clause-goes
returns-in-Some-clause-goes g c w m = (
  λ h. refl,
  refl,
  found (rule_of c.args.nodes.now (g.W.Store.base c.args.store.now))
      (g.W.Store.lists c.args.store.now) c.args.table.now c.args.place c.args.environment w c.in-Some.value m
      (c.in-Some.ensures.value m.term m.env m.at m.environment),
)

pub returns-in-Some-clause-lessens : goal.returns-in-Some-clause-lessens
returns-in-Some-clause-lessens g c =
    let m = c.requires.meets.1 in
    let few = some_nodes m.at.tree in
    let e = at_extent (rule_of c.args.nodes.now (g.W.Store.base c.args.store.now)) _ c.args.place m.term m.at in
    omega arith

pub returns-in_default : goal.returns-in_default
returns-in_default g c =
    record {
      goes = λ w m. (
        λ h. refl,
        refl,
        over (rule_of c.args.nodes.now (g.W.Store.base c.args.store.now)) (g.W.Store.lists c.args.store.now)
            c.args.table.now c.args.place c.args.environment w m c.if-table-eq-MOST_OPEN.true c.node.result
            c.node.ensures
            (is_operation c.node.result c.in_default.not-Number c.in_default.not-Truth c.in_default.not-Variable
            c.in_default.not-Reading c.in_default.not-Function),
      );
      lessens = tt;
      still = λ e. refl;
      base = refl;
      whole = refl;
      cost = refl;
    }

pub enter_operation-requires-clause-operation : goal.enter_operation-requires-clause-operation
enter_operation-requires-clause-operation g c =
    subst IsOperation c.node.ensures
    (is_operation c.node.result c.in_default.not-Number c.in_default.not-Truth c.in_default.not-Variable
    c.in_default.not-Reading c.in_default.not-Function)
