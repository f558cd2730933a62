use Rattle.std.proofs.Common.{◌≡◌, sym, ap, ◌∙◌, subst, rules, SFits, w32, to_z, of_z}
use Rattle.std.proofs.lemmas.Int.{to_z-of_z}
use Rattle.std.specs.Int.Signed.{le_z}
use Rattle.values.specs.declared.Value.TheVariants.{Number, Truth}
use Rattle.machine.specs.declared.operation.Operation.TheVariants.{CompareLeft}
use Rattle.machine.specs.declared.reduce.Reduced.TheVariants as reduced
use Rattle.machine.specs.Standing.{InHand}
use Rattle.machine.specs.Reducing.{Reduces}
use Rattle.machine.proofs.Reductions.{no_left_compared, no_right_compared, compared}
use Rattle.machine.proofs.reduce.compare.Goals as goal

pub unreachable-requires : goal.unreachable-requires
unreachable-requires c =
    let t = c.requires in
    t.6 (no_left_compared t.0 t.1 t.2 t.3 c.args.node c.args.right c.args.value t.4 c.in_default.not-Number t.5)

pub unreachable-requires-in_default-right : goal.unreachable-requires-in_default-right
unreachable-requires-in_default-right c =
    let t = c.requires in
    t.6 (no_right_compared t.0 t.1 t.2 t.3 c.args.node c.args.right c.in-Number.left t.4 c.in_default-right.not-Number
    (subst (λ x. InHand t.0 t.1 t.2 t.3 (CompareLeft c.args.node c.args.right) x t.4) c.in-Number.is t.5))

pub returns : goal.returns
returns c rule r lists free table w t =
    let i = c.in-Number.left in
    let j = c.in-Number-right.right in
    let fits_i : SFits w32 i = search rules in
    let fits_j : SFits w32 j = search rules in
    let e : le_z (to_z w32 (of_z w32 i)) (to_z w32 (of_z w32 j)) ≡ le_z i j = ap (λ x. le_z x (to_z w32 (of_z w32 j)))
    (to_z-of_z w32 i fits_i) ∙ ap (λ x. le_z i x) (to_z-of_z w32 j fits_j) in
    subst (λ b. Reduces rule r lists lists free free table (reduced.Found (Truth b)) w) (sym e)
    (compared rule lists r free table c.args.node i j w
    (subst (λ x. InHand rule lists table.ops table.depth (CompareLeft c.args.node (Number j)) x w) c.in-Number.is
    (subst (λ y. InHand rule lists table.ops table.depth (CompareLeft c.args.node y) c.args.value w)
    c.in-Number-right.is t)))
