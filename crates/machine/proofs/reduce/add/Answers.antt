use Rattle.std.proofs.Common.{◌≡◌, sym, ap, ◌∙◌, subst, rules, SFits, w32, to_z, of_z}
use Rattle.std.proofs.lemmas.Int.{to_z-of_z}
use Rattle.calculus.specs.Range.{sum_of}
use Rattle.arithmetic.specs.Sums.{as_result}
use Rattle.values.specs.declared.Value.TheVariants.{Number}
use Rattle.machine.specs.declared.operation.Operation.TheVariants.{SumLeft}
use Rattle.machine.specs.declared.reduce.Reduced.TheVariants as reduced
use Rattle.machine.specs.Standing.{InHand}
use Rattle.machine.specs.Reducing.{Reduces}
use Rattle.arithmetic.proofs.Sums.{told_within, told_out}
use Rattle.machine.proofs.Reductions.{no_left_added, no_right_added, sum_found, sum_leaves}
use Rattle.machine.proofs.reduce.add.Goals as goal

pub unreachable-requires : goal.unreachable-requires
unreachable-requires c =
    let t = c.requires in
    t.6 (no_left_added t.0 t.1 t.2 t.3 c.args.node c.args.right c.args.value t.4 c.in_default.not-Number t.5)

pub unreachable-requires-in_default-right : goal.unreachable-requires-in_default-right
unreachable-requires-in_default-right c =
    let t = c.requires in
    t.6 (no_right_added t.0 t.1 t.2 t.3 c.args.node c.args.right c.in-Number.left t.4 c.in_default-right.not-Number
    (subst (λ x. InHand t.0 t.1 t.2 t.3 (SumLeft c.args.node c.args.right) x t.4) c.in-Number.is t.5))

pub returns-in-Ok : goal.returns-in-Ok
returns-in-Ok c rule r lists free table w t =
    let i = c.in-Number.left in
    let j = c.in-Number-right.right in
    let k = c.in-Ok.sum in
    let fits_i : SFits w32 i = search rules in
    let fits_j : SFits w32 j = search rules in
    let fits_k : SFits w32 k = search rules in
    let same_sum : sum_of (to_z w32 (of_z w32 i)) (to_z w32 (of_z w32 j)) ≡ sum_of i j =
    ap (λ x. sum_of x (to_z w32 (of_z w32 j))) (to_z-of_z w32 i fits_i)
    ∙ ap (λ y. sum_of i y) (to_z-of_z w32 j fits_j) in
    subst (λ x. Reduces rule r lists lists free free table (reduced.Found (Number x)) w) (sym (to_z-of_z w32 k fits_k))
    (sum_found rule lists r free table c.args.node i j k w
    (told_within (sum_of i j) k (c.in-Ok.ensures ∙ ap as_result same_sum))
    (subst (λ x. InHand rule lists table.ops table.depth (SumLeft c.args.node (Number j)) x w) c.in-Number.is
    (subst (λ y. InHand rule lists table.ops table.depth (SumLeft c.args.node y) c.args.value w) c.in-Number-right.is
    t)))

pub returns-in-Err : goal.returns-in-Err
returns-in-Err c rule r lists free table w t =
    let i = c.in-Number.left in
    let j = c.in-Number-right.right in
    let fits_i : SFits w32 i = search rules in
    let fits_j : SFits w32 j = search rules in
    let same_sum : sum_of (to_z w32 (of_z w32 i)) (to_z w32 (of_z w32 j)) ≡ sum_of i j =
    ap (λ x. sum_of x (to_z w32 (of_z w32 j))) (to_z-of_z w32 i fits_i)
    ∙ ap (λ y. sum_of i y) (to_z-of_z w32 j fits_j) in
    sum_leaves rule lists r free table c.args.node c.in-Err.beyond i j w
    (told_out (sum_of i j) c.in-Err.beyond (c.in-Err.ensures ∙ ap as_result same_sum))
    (subst (λ x. InHand rule lists table.ops table.depth (SumLeft c.args.node (Number j)) x w) c.in-Number.is
    (subst (λ y. InHand rule lists table.ops table.depth (SumLeft c.args.node y) c.args.value w) c.in-Number-right.is
    t))
