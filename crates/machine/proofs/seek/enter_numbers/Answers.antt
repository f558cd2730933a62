use Rattle.std.proofs.Common.{◌≡◌, sym, ap, ◌∙◌, subst, refl, arith}
use Rattle.syntax.specs.Tree.{nodes}
use Rattle.syntax.specs.declared.node.Node.TheVariants.{Sum, AtMost}
use Rattle.machine.specs.declared.operation.Operation.TheVariants.{SumRight, CompareRight}
use Rattle.machine.specs.Opens.{span, weight}
use Rattle.machine.specs.Reducing.{room_of}
use Rattle.machine.specs.Extents.{to_meet}
use Rattle.machine.specs.Going.{Goes, Lessens}
use Rattle.machine.proofs.Placing.{shape}
use Rattle.machine.proofs.Entering.{takes_sum, takes_at_most, opening_goes_on, opened, sum_next, comparison_next}
use Rattle.machine.proofs.Extents.{shorter, shorter_open}
use Rattle.machine.specs.Places.{rule_of}
use Rattle.machine.proofs.seek.enter_numbers.Goals as goal

pub leaf-requires : goal.leaf-requires
leaf-requires g c =
    let m = c.requires.meets in
    opening_goes_on (rule_of c.args.nodes.now (g.W.Store.base c.args.store.now)) (g.W.Store.lists c.args.store.now)
    c.args.table.now.ops c.args.table.now.depth (SumRight c.args.place c.in-Sum.l c.args.environment) c.in-Sum.r
    c.args.environment m.0
    (takes_sum (rule_of c.args.nodes.now (g.W.Store.base c.args.store.now)) (g.W.Store.lists c.args.store.now)
    c.args.table.now c.args.place c.args.environment m.0 m.1 c.in-Sum.l c.in-Sum.r c.in-Sum.ensures) m.2

pub operand-requires-clause-opening : goal.operand-requires-clause-opening
operand-requires-clause-opening g c =
    let m = c.requires.meets in (
      m.0,
      sum_next (rule_of c.args.nodes.now (g.W.Store.base c.args.store.now)) (g.W.Store.lists c.args.store.now)
          c.args.table.now c.args.place c.args.environment m.0 m.1 c.in-Sum.l c.in-Sum.r c.in-Some.right
          c.in-Some.ensures.value c.in-Sum.ensures,
      m.2,
    )

pub returns-in-Some-clause-goes : goal.returns-in-Some-clause-goes
returns-in-Some-clause-goes g c w m =
    c.operand.ensures.goes w (sum_next (rule_of c.args.nodes.now (g.W.Store.base c.args.store.now))
    (g.W.Store.lists c.args.store.now) c.args.table.now c.args.place c.args.environment w m c.in-Sum.l c.in-Sum.r
    c.in-Some.right c.in-Some.ensures.value c.in-Sum.ensures)

pub returns-in-Some-clause-lessens : goal.returns-in-Some-clause-lessens
returns-in-Some-clause-lessens g c =
    let m = c.requires.meets.1 in
    let b = (shape (rule_of c.args.nodes.now (g.W.Store.base c.args.store.now)) _ c.args.place m.term
    (Sum c.in-Sum.l c.in-Sum.r) m.at c.in-Sum.ensures).3 in
    let fewer = b.fewer in
    c.operand.ensures.lessens _ (shorter (rule_of c.args.nodes.now (g.W.Store.base c.args.store.now)) c.args.table.now
    _ _ c.args.place c.in-Sum.l _ _ m.at b.left (omega arith))

pub returns-in-None-clause-goes : goal.returns-in-None-clause-goes
returns-in-None-clause-goes g c w m =
    subst (λ r. Goes (rule_of c.args.nodes.now (g.W.Store.base c.args.store.now))
    (room_of (g.W.Store.whole c.args.store.now) (g.W.Store.cost c.args.store.now))
    (g.W.Store.lists c.args.store.now) (g.W.Store.lists c.args.store.now) (g.W.Store.room c.args.store.now)
    (g.W.Store.room c.args.store.now) c.args.left c.open.new.table r w) (sym c.open.ensures.next) (
      λ h. refl,
      refl,
      opened (rule_of c.args.nodes.now (g.W.Store.base c.args.store.now)) (g.W.Store.lists c.args.store.now)
          c.args.table.now.ops c.args.table.now.depth (SumRight c.args.place c.in-Sum.l c.args.environment) c.in-Sum.r
          c.args.environment w
          (takes_sum (rule_of c.args.nodes.now (g.W.Store.base c.args.store.now)) (g.W.Store.lists c.args.store.now)
          c.args.table.now c.args.place c.args.environment w m c.in-Sum.l c.in-Sum.r c.in-Sum.ensures)
          c.open.new.table c.open.ensures.ops c.open.ensures.depth,
    )

pub returns-in-None-clause-lessens : goal.returns-in-None-clause-lessens
returns-in-None-clause-lessens g c =
    let m = c.requires.meets.1 in
    let b = (shape (rule_of c.args.nodes.now (g.W.Store.base c.args.store.now)) _ c.args.place m.term
    (Sum c.in-Sum.l c.in-Sum.r) m.at c.in-Sum.ensures).3 in
    let op = SumRight c.args.place c.in-Sum.l c.args.environment in
    let fewer = b.fewer in
    let sized : weight c.args.nodes.now op ≡ nodes b.left.tree = ap span (sym c.in-Sum.ensures) ∙ b.sized in
    subst (λ r. Lessens c.args.nodes.now c.open.new.table r (to_meet c.args.nodes.now c.args.table.now c.args.place))
    (sym c.open.ensures.next)
    (shorter_open (rule_of c.args.nodes.now (g.W.Store.base c.args.store.now)) c.args.table.now _ _ c.args.place
    c.in-Sum.r _ _ m.at b.right c.open.new.table op
    c.open.ensures.ops c.open.ensures.depth (omega arith))

pub leaf-requires-in-AtMost : goal.leaf-requires-in-AtMost
leaf-requires-in-AtMost g c =
    let m = c.requires.meets in
    opening_goes_on (rule_of c.args.nodes.now (g.W.Store.base c.args.store.now)) (g.W.Store.lists c.args.store.now)
    c.args.table.now.ops c.args.table.now.depth (CompareRight c.args.place c.in-AtMost.l c.args.environment)
    c.in-AtMost.r c.args.environment m.0
    (takes_at_most (rule_of c.args.nodes.now (g.W.Store.base c.args.store.now)) (g.W.Store.lists c.args.store.now)
    c.args.table.now c.args.place c.args.environment m.0 m.1 c.in-AtMost.l c.in-AtMost.r c.in-AtMost.ensures) m.2

pub operand-requires-in-Some-leaf-clause-opening : goal.operand-requires-in-Some-leaf-clause-opening
operand-requires-in-Some-leaf-clause-opening g c =
    let m = c.requires.meets in (
      m.0,
      comparison_next (rule_of c.args.nodes.now (g.W.Store.base c.args.store.now))
          (g.W.Store.lists c.args.store.now) c.args.table.now c.args.place c.args.environment m.0 m.1 c.in-AtMost.l
          c.in-AtMost.r c.in-Some-leaf.right c.in-Some-leaf.ensures.value c.in-AtMost.ensures,
      m.2,
    )

pub returns-in-Some-leaf-clause-goes : goal.returns-in-Some-leaf-clause-goes
returns-in-Some-leaf-clause-goes g c w m =
    c.operand-in-Some-leaf.ensures.goes w
    (comparison_next (rule_of c.args.nodes.now (g.W.Store.base c.args.store.now))
    (g.W.Store.lists c.args.store.now) c.args.table.now c.args.place c.args.environment w m c.in-AtMost.l
    c.in-AtMost.r c.in-Some-leaf.right c.in-Some-leaf.ensures.value c.in-AtMost.ensures)

pub returns-in-Some-leaf-clause-lessens : goal.returns-in-Some-leaf-clause-lessens
returns-in-Some-leaf-clause-lessens g c =
    let m = c.requires.meets.1 in
    let b = (shape (rule_of c.args.nodes.now (g.W.Store.base c.args.store.now)) _ c.args.place m.term
    (AtMost c.in-AtMost.l c.in-AtMost.r) m.at c.in-AtMost.ensures).3 in
    let fewer = b.fewer in
    c.operand-in-Some-leaf.ensures.lessens _ (shorter (rule_of c.args.nodes.now (g.W.Store.base c.args.store.now))
    c.args.table.now _ _ c.args.place c.in-AtMost.l _ _ m.at b.left (omega arith))

pub returns-in-None-leaf-clause-goes : goal.returns-in-None-leaf-clause-goes
returns-in-None-leaf-clause-goes g c w m =
    subst (λ r. Goes (rule_of c.args.nodes.now (g.W.Store.base c.args.store.now))
    (room_of (g.W.Store.whole c.args.store.now) (g.W.Store.cost c.args.store.now))
    (g.W.Store.lists c.args.store.now) (g.W.Store.lists c.args.store.now) (g.W.Store.room c.args.store.now)
    (g.W.Store.room c.args.store.now) c.args.left c.open-in-None-leaf.new.table r w)
    (sym c.open-in-None-leaf.ensures.next) (
      λ h. refl,
      refl,
      opened (rule_of c.args.nodes.now (g.W.Store.base c.args.store.now)) (g.W.Store.lists c.args.store.now)
          c.args.table.now.ops c.args.table.now.depth (CompareRight c.args.place c.in-AtMost.l c.args.environment)
          c.in-AtMost.r c.args.environment w
          (takes_at_most (rule_of c.args.nodes.now (g.W.Store.base c.args.store.now))
          (g.W.Store.lists c.args.store.now) c.args.table.now c.args.place c.args.environment w m c.in-AtMost.l
          c.in-AtMost.r c.in-AtMost.ensures) c.open-in-None-leaf.new.table c.open-in-None-leaf.ensures.ops
          c.open-in-None-leaf.ensures.depth,
    )

pub returns-in-None-leaf-clause-lessens : goal.returns-in-None-leaf-clause-lessens
returns-in-None-leaf-clause-lessens g c =
    let m = c.requires.meets.1 in
    let b = (shape (rule_of c.args.nodes.now (g.W.Store.base c.args.store.now)) _ c.args.place m.term
    (AtMost c.in-AtMost.l c.in-AtMost.r) m.at c.in-AtMost.ensures).3 in
    let op = CompareRight c.args.place c.in-AtMost.l c.args.environment in
    let fewer = b.fewer in
    let sized : weight c.args.nodes.now op ≡ nodes b.left.tree = ap span (sym c.in-AtMost.ensures) ∙ b.sized in
    subst (λ r. Lessens c.args.nodes.now c.open-in-None-leaf.new.table r (to_meet c.args.nodes.now c.args.table.now
    c.args.place)) (sym c.open-in-None-leaf.ensures.next)
    (shorter_open (rule_of c.args.nodes.now (g.W.Store.base c.args.store.now)) c.args.table.now _ _ c.args.place
    c.in-AtMost.r _ _ m.at b.right c.open-in-None-leaf.new.table op
    c.open-in-None-leaf.ensures.ops c.open-in-None-leaf.ensures.depth (omega arith))
