use Rattle.std.proofs.Common.{◌≡◌, true, false, ap, ◌∙◌, subst}
use Rattle.values.specs.declared.Value.TheVariants.{Truth}
use Rattle.machine.specs.declared.operation.Operation.TheVariants.{Condition}
use Rattle.machine.specs.Standing.{InHand}
use Rattle.machine.proofs.Reductions.{nothing_chosen, chosen_true, chosen_false}
use Rattle.machine.proofs.reduce.choose.Goals as goal

pub unreachable-requires : goal.unreachable-requires
unreachable-requires c =
    let t = c.requires in
    t.6 (nothing_chosen t.0 t.1 t.2 t.3 c.args.node c.args.then c.args.otherwise c.args.environment c.args.value t.4
    c.in_default.not-Truth t.5)

pub returns-then-truth : goal.returns-then-truth
returns-then-truth c rule r lists free table w t =
    let is : c.args.value ≡ Truth true = c.in-Truth.is ∙ ap Truth c.if-truth.true in
    chosen_true rule lists r free table c.args.node c.args.then c.args.otherwise c.args.environment w
    (subst (λ x. InHand rule lists table.ops table.depth (Condition c.args.node c.args.then c.args.otherwise
    c.args.environment) x w) is t)

pub returns-else-truth : goal.returns-else-truth
returns-else-truth c rule r lists free table w t =
    let is : c.args.value ≡ Truth false = c.in-Truth.is ∙ ap Truth c.if-truth.false in
    chosen_false rule lists r free table c.args.node c.args.then c.args.otherwise c.args.environment w
    (subst (λ x. InHand rule lists table.ops table.depth (Condition c.args.node c.args.then c.args.otherwise
    c.args.environment) x w) is t)
