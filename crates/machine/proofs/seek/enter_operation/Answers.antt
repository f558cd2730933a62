use Rattle.std.proofs.Common.{◌≡◌, sym, ap, ◌∙◌, subst, refl, arith}
use Rattle.syntax.specs.Tree.{nodes}
use Rattle.syntax.specs.declared.node.Node.TheVariants.{Application, LetIn, IfElse}
use Rattle.machine.specs.declared.operation.Operation.TheVariants.{Argument}
use Rattle.machine.specs.Opens.{span, weight, IsOperation, IsOfNumbers}
use Rattle.machine.specs.Reducing.{room_of}
use Rattle.machine.specs.Extents.{to_meet}
use Rattle.machine.specs.Going.{Goes, Lessens}
use Rattle.machine.proofs.Placing.{shape}
use Rattle.machine.proofs.Entering.{takes_application, takes_let, takes_if, opening_goes_on, opened, applied_next}
use Rattle.machine.proofs.Extents.{shorter, shorter_open}
use Rattle.machine.proofs.Fusing.{is_of_numbers}
use Rattle.machine.proofs.seek.enter_operation.Goals as goal
use Rattle.machine.specs.Places.{rule_of}

pub leaf-requires : goal.leaf-requires
leaf-requires g c =
    let m = c.requires.meets in
    opening_goes_on (rule_of c.args.nodes.now (g.W.Store.base c.args.store.now)) (g.W.Store.lists c.args.store.now)
    c.args.table.now.ops c.args.table.now.depth (Argument c.args.place c.in-Application.function
    c.args.environment) c.in-Application.argument c.args.environment m.0
    (takes_application (rule_of c.args.nodes.now (g.W.Store.base c.args.store.now)) (g.W.Store.lists c.args.store.now)
    c.args.table.now c.args.place c.args.environment m.0 m.1 c.in-Application.function c.in-Application.argument
    c.in-Application.ensures) m.2

pub operand-requires-clause-opening : goal.operand-requires-clause-opening
operand-requires-clause-opening g c =
    let m = c.requires.meets in (
      m.0,
      applied_next (rule_of c.args.nodes.now (g.W.Store.base c.args.store.now)) (g.W.Store.lists c.args.store.now)
          c.args.table.now c.args.place c.args.environment m.0 m.1 c.in-Application.function c.in-Application.argument
          c.in-Some.argument c.in-Some.ensures.value c.in-Application.ensures,
      m.2,
    )

pub returns-in-Some-clause-goes : goal.returns-in-Some-clause-goes
returns-in-Some-clause-goes g c w m =
    c.operand.ensures.goes w (applied_next (rule_of c.args.nodes.now (g.W.Store.base c.args.store.now))
    (g.W.Store.lists c.args.store.now) c.args.table.now c.args.place c.args.environment w m
    c.in-Application.function c.in-Application.argument c.in-Some.argument c.in-Some.ensures.value
    c.in-Application.ensures)

pub returns-in-Some-clause-lessens : goal.returns-in-Some-clause-lessens
returns-in-Some-clause-lessens g c =
    let m = c.requires.meets.1 in
    let b = (shape (rule_of c.args.nodes.now (g.W.Store.base c.args.store.now)) _ c.args.place m.term
    (Application c.in-Application.function c.in-Application.argument) m.at c.in-Application.ensures).3 in
    let fewer = b.fewer in
    c.operand.ensures.lessens _ (shorter (rule_of c.args.nodes.now (g.W.Store.base c.args.store.now)) c.args.table.now
    _ _ c.args.place c.in-Application.function _ _ m.at b.left (omega arith))

pub returns-in-None-clause-goes : goal.returns-in-None-clause-goes
returns-in-None-clause-goes g c w m =
    subst (λ r. Goes (rule_of c.args.nodes.now (g.W.Store.base c.args.store.now))
    (room_of (g.W.Store.whole c.args.store.now) (g.W.Store.cost c.args.store.now))
    (g.W.Store.lists c.args.store.now) (g.W.Store.lists c.args.store.now) (g.W.Store.room c.args.store.now)
    (g.W.Store.room c.args.store.now) c.args.left c.open.new.table r w) (sym c.open.ensures.next) (
      λ h. refl,
      refl,
      opened (rule_of c.args.nodes.now (g.W.Store.base c.args.store.now)) (g.W.Store.lists c.args.store.now)
          c.args.table.now.ops c.args.table.now.depth (Argument c.args.place c.in-Application.function
          c.args.environment) c.in-Application.argument c.args.environment w
          (takes_application (rule_of c.args.nodes.now (g.W.Store.base c.args.store.now))
          (g.W.Store.lists c.args.store.now) c.args.table.now c.args.place c.args.environment w m
          c.in-Application.function c.in-Application.argument c.in-Application.ensures) c.open.new.table
          c.open.ensures.ops c.open.ensures.depth,
    )

pub returns-in-None-clause-lessens : goal.returns-in-None-clause-lessens
returns-in-None-clause-lessens g c =
    let m = c.requires.meets.1 in
    let b = (shape (rule_of c.args.nodes.now (g.W.Store.base c.args.store.now)) _ c.args.place m.term
    (Application c.in-Application.function c.in-Application.argument) m.at c.in-Application.ensures).3 in
    let op = Argument c.args.place c.in-Application.function c.args.environment in
    let fewer = b.fewer in
    let sized : weight c.args.nodes.now op ≡ nodes b.left.tree = ap span (sym c.in-Application.ensures) ∙ b.sized in
    subst (λ r. Lessens c.args.nodes.now c.open.new.table r (to_meet c.args.nodes.now c.args.table.now c.args.place))
    (sym c.open.ensures.next)
    (shorter_open (rule_of c.args.nodes.now (g.W.Store.base c.args.store.now)) c.args.table.now _ _ c.args.place
    c.in-Application.argument _ _ m.at b.right c.open.new.table op
    c.open.ensures.ops c.open.ensures.depth (omega arith))

pub operand-requires-in-LetIn-clause-opening : goal.operand-requires-in-LetIn-clause-opening
operand-requires-in-LetIn-clause-opening g c =
    let m = c.requires.meets in (
      m.0,
      takes_let (rule_of c.args.nodes.now (g.W.Store.base c.args.store.now)) (g.W.Store.lists c.args.store.now)
          c.args.table.now c.args.place c.args.environment m.0 m.1 c.in-LetIn.bound c.in-LetIn.body c.in-LetIn.ensures,
      m.2,
    )

pub returns-in-LetIn-clause-goes : goal.returns-in-LetIn-clause-goes
returns-in-LetIn-clause-goes g c w m = c.operand-in-LetIn.ensures.goes w
    (takes_let (rule_of c.args.nodes.now (g.W.Store.base c.args.store.now)) (g.W.Store.lists c.args.store.now)
    c.args.table.now c.args.place c.args.environment w m c.in-LetIn.bound c.in-LetIn.body c.in-LetIn.ensures)

pub returns-in-LetIn-clause-lessens : goal.returns-in-LetIn-clause-lessens
returns-in-LetIn-clause-lessens g c =
    let m = c.requires.meets.1 in
    let b = (shape (rule_of c.args.nodes.now (g.W.Store.base c.args.store.now)) _ c.args.place m.term
    (LetIn c.in-LetIn.bound c.in-LetIn.body) m.at c.in-LetIn.ensures).3 in
    c.operand-in-LetIn.ensures.lessens _ (shorter (rule_of c.args.nodes.now (g.W.Store.base c.args.store.now))
    c.args.table.now _ _ c.args.place c.in-LetIn.bound _ _ m.at b.first b.fewer)

pub operand-requires-in-IfElse-clause-opening : goal.operand-requires-in-IfElse-clause-opening
operand-requires-in-IfElse-clause-opening g c =
    let m = c.requires.meets in (
      m.0,
      takes_if (rule_of c.args.nodes.now (g.W.Store.base c.args.store.now)) (g.W.Store.lists c.args.store.now)
          c.args.table.now c.args.place c.args.environment m.0 m.1 c.in-IfElse.condition c.in-IfElse.then
          c.in-IfElse.otherwise c.in-IfElse.ensures,
      m.2,
    )

pub returns-in-IfElse-clause-goes : goal.returns-in-IfElse-clause-goes
returns-in-IfElse-clause-goes g c w m = c.operand-in-IfElse.ensures.goes w
    (takes_if (rule_of c.args.nodes.now (g.W.Store.base c.args.store.now)) (g.W.Store.lists c.args.store.now)
    c.args.table.now c.args.place c.args.environment w m c.in-IfElse.condition c.in-IfElse.then c.in-IfElse.otherwise
    c.in-IfElse.ensures)

pub returns-in-IfElse-clause-lessens : goal.returns-in-IfElse-clause-lessens
returns-in-IfElse-clause-lessens g c =
    let m = c.requires.meets.1 in
    let b = (shape (rule_of c.args.nodes.now (g.W.Store.base c.args.store.now)) _ c.args.place m.term
    (IfElse c.in-IfElse.condition c.in-IfElse.then c.in-IfElse.otherwise) m.at c.in-IfElse.ensures).4 in
    c.operand-in-IfElse.ensures.lessens _ (shorter (rule_of c.args.nodes.now (g.W.Store.base c.args.store.now))
    c.args.table.now _ _ c.args.place c.in-IfElse.condition _ _ m.at b.first b.fewer)

pub enter_numbers-requires-clause-numbers : goal.enter_numbers-requires-clause-numbers
enter_numbers-requires-clause-numbers g c =
    let o = subst IsOperation (sym c.node.ensures) c.requires.operation in
    subst IsOfNumbers c.node.ensures
    (is_of_numbers c.node.result o c.in_default.not-Application c.in_default.not-LetIn c.in_default.not-IfElse)
