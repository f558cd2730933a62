use Rattle.std.proofs.Common.{Some, sym, ap, ◌∙◌, subst, rules, SFits, w32}
use Rattle.std.proofs.lemmas.Int.{to_z-of_z}
use Rattle.values.specs.declared.Value.TheVariants.{Number}
use Rattle.machine.specs.Opens.{IsOperation}
use Rattle.machine.specs.Leaves.{AtOnce}
use Rattle.machine.proofs.Placing.{at_inside}
use Rattle.machine.proofs.Fusing.{number_at_once, truth_at_once, function_at_once, is_operation}
use Rattle.machine.proofs.Variables.{binder_at_once, no_binder, reading_at_once, no_reading}
use Rattle.machine.proofs.seek.leaf.Goals as goal
use Rattle.machine.specs.Places.{rule_of}

pub node-requires : goal.node-requires
node-requires g c = let m = c.requires in at_inside (rule_of c.args.nodes.now (g.W.Store.base c.args.store.now)) _
    c.args.place m.term m.at

pub returns-in-Number-clause-value : goal.returns-in-Number-clause-value
returns-in-Number-clause-value g c t env a i =
    let fits : SFits w32 c.in-Number.number = search rules in
    subst (λ v. AtOnce (rule_of c.args.nodes.now (g.W.Store.base c.args.store.now)) (g.W.Store.lists c.args.store.now)
    t env (Some v)) (sym (c.number_value.ensures ∙ ap Number (to_z-of_z w32 c.in-Number.number fits)))
    (number_at_once (rule_of c.args.nodes.now (g.W.Store.base c.args.store.now)) (g.W.Store.lists c.args.store.now)
    c.args.place c.args.environment t env a i c.in-Number.number c.in-Number.ensures)

pub returns-in-Truth-clause-value : goal.returns-in-Truth-clause-value
returns-in-Truth-clause-value g c t env a i =
    truth_at_once (rule_of c.args.nodes.now (g.W.Store.base c.args.store.now)) (g.W.Store.lists c.args.store.now)
    c.args.place c.args.environment t env a i c.in-Truth.truth c.in-Truth.ensures

pub returns-in-Ok-clause-value : goal.returns-in-Ok-clause-value
returns-in-Ok-clause-value g c t env a i =
    binder_at_once c.args.nodes.now _ _ (g.met.W.Environments.base c.args.store.now) _ _
    (g.met.W.Environments.behind c.args.store.now) c.args.place c.args.environment t env a i
    c.in-Variable.distance c.in-Ok.value c.in-Variable.ensures c.in-Ok.ensures

pub unreachable-requires : goal.unreachable-requires
unreachable-requires g c =
    no_binder c.args.nodes.now _ _ (g.met.W.Environments.base c.args.store.now) _ _
    (g.met.W.Environments.behind c.args.store.now) c.args.place c.args.environment c.in-Variable.distance
    c.in-Err.field-0 c.in-Variable.ensures c.in-Err.ensures c.requires

pub returns-in-Some-clause-value : goal.returns-in-Some-clause-value
returns-in-Some-clause-value g c t env a i =
    reading_at_once c.args.nodes.now _ _ (g.met.W.Environments.base c.args.store.now) _ _
    (g.met.W.Environments.behind c.args.store.now) c.args.place c.args.environment t env a i c.in-Reading.number
    c.in-Some.value c.in-Reading.ensures c.in-Some.ensures

pub unreachable-requires-in-None : goal.unreachable-requires-in-None
unreachable-requires-in-None g c =
    no_reading c.args.nodes.now _ _ (g.met.W.Environments.base c.args.store.now) _ _
    (g.met.W.Environments.behind c.args.store.now) c.args.place c.args.environment c.in-Reading.number
    c.in-Reading.ensures c.in-None.ensures c.requires

pub returns-in-Function-clause-value : goal.returns-in-Function-clause-value
returns-in-Function-clause-value g c t env a i =
    function_at_once (rule_of c.args.nodes.now (g.W.Store.base c.args.store.now)) (g.W.Store.lists c.args.store.now)
    c.args.place c.args.environment t env a i c.in-Function.field-0 c.in-Function.ensures

pub returns-in_default-clause-operation : goal.returns-in_default-clause-operation
returns-in_default-clause-operation g c e =
    subst IsOperation c.node.ensures
    (is_operation c.node.result c.in_default.not-Number c.in_default.not-Truth c.in_default.not-Variable
    c.in_default.not-Reading c.in_default.not-Function)
