use Rattle.std.proofs.Common.{subst, ◌∙◌}
use Rattle.machine.specs.declared.operation.Operation.TheVariants.{Applied}
use Rattle.machine.specs.Standing.{InHand}
use Rattle.machine.proofs.Extending.{no_function, function_there, function_known, applies}
use Rattle.machine.proofs.reduce.apply.Goals as goal
use Rattle.machine.specs.Places.{rule_of}

pub unreachable-requires : goal.unreachable-requires
unreachable-requires g c =
    let t = c.requires.hand in
    t.4 (no_function (rule_of c.args.nodes.now (g.W.Store.base c.args.store.now)) (g.W.Store.lists c.args.store.now)
    t.0 t.1 c.args.node c.args.argument c.args.value t.2 c.in_default.not-Function t.3)

pub node-requires : goal.node-requires
node-requires g c =
    let t = c.requires.hand in
    (function_there (rule_of c.args.nodes.now (g.W.Store.base c.args.store.now)) (g.W.Store.lists c.args.store.now)
    t.0 t.1 c.args.node c.in-Function.function c.in-Function.environment c.args.argument t.2
    (subst (λ x. InHand (rule_of c.args.nodes.now (g.W.Store.base c.args.store.now))
    (g.W.Store.lists c.args.store.now) t.0 t.1 (Applied c.args.node c.args.argument) x t.2) c.in-Function.is t.3)).1

pub unreachable-requires-in_default-node_of : goal.unreachable-requires-in_default-node_of
unreachable-requires-in_default-node_of g c =
    let t = c.requires.hand in
    let there = function_there (rule_of c.args.nodes.now (g.W.Store.base c.args.store.now))
    (g.W.Store.lists c.args.store.now) t.0 t.1 c.args.node c.in-Function.function c.in-Function.environment
    c.args.argument t.2
    (subst (λ x. InHand (rule_of c.args.nodes.now (g.W.Store.base c.args.store.now))
    (g.W.Store.lists c.args.store.now) t.0 t.1 (Applied c.args.node c.args.argument) x t.2) c.in-Function.is t.3) in
    c.in_default-node_of.not-Function there.0 (c.node.ensures ∙ there.2)

pub enter_body-requires : goal.enter_body-requires
enter_body-requires g c =
    let t = c.requires.hand in
    record {
      known = function_known (rule_of c.args.nodes.now (g.W.Store.base c.args.store.now))
          (g.W.Store.lists c.args.store.now) t.0 t.1 c.args.node c.in-Function.function c.in-Function.environment
          c.args.argument t.2
          (subst (λ x. InHand (rule_of c.args.nodes.now (g.W.Store.base c.args.store.now))
          (g.W.Store.lists c.args.store.now) t.0 t.1 (Applied c.args.node c.args.argument) x t.2) c.in-Function.is
          t.3);
    }

pub returns-clause-reduces : goal.returns-clause-reduces
returns-clause-reduces g c table w t =
    applies (rule_of c.args.nodes.now (g.W.Store.base c.args.store.now)) (g.W.Store.lists c.args.store.now)
    (g.W.Store.lists c.enter_body.new.store) (g.W.Store.whole c.args.store.now) (g.W.Store.cost c.args.store.now)
    (g.W.Store.room c.args.store.now) (g.W.Store.room c.enter_body.new.store) table c.args.node c.in-Function.function
    c.in-Function.environment
    c.in-Function-node_of.body c.args.argument w
    (subst (λ x. InHand (rule_of c.args.nodes.now (g.W.Store.base c.args.store.now))
    (g.W.Store.lists c.args.store.now) table.ops table.depth (Applied c.args.node c.args.argument) x w)
    c.in-Function.is t)
    c.in-Function-node_of.ensures c.enter_body.result c.enter_body.ensures.extends
