use Rattle.std.proofs.Common.{◌<◌, sym, refl, subst, arith}
use Rattle.machine.specs.declared.operation.Operation.TheVariants.{Argument, SumRight, CompareRight}
use Rattle.machine.proofs.Entering.{gives_argument, gives_sum, gives_compare}
use Rattle.machine.proofs.Extents.{gives_way}
use Rattle.machine.specs.Opens.{IsReady}
use Rattle.machine.proofs.Settling.{popped}
use Rattle.machine.proofs.settle.come_back.Goals as goal
use Rattle.machine.specs.Places.{rule_of}

pub operand-requires-clause-opening : goal.operand-requires-clause-opening
operand-requires-clause-opening g c =
    let some_open : 0 < c.args.table.now.depth = omega arith in
    let f = c.requires.found in (
      f.0,
      gives_argument (rule_of c.args.nodes.now (g.W.Store.base c.args.store.now)) (g.W.Store.lists c.args.store.now)
          c.pop.new.self.ops c.pop.new.self.depth c.args.value f.0 c.in-Argument.node c.in-Argument.function
          c.in-Argument.environment (popped (rule_of c.args.nodes.now (g.W.Store.base c.args.store.now))
          (g.W.Store.lists c.args.store.now) c.args.table.now c.pop.new.self c.args.value f.0
          (Argument c.in-Argument.node c.in-Argument.function c.in-Argument.environment)
          some_open c.pop.ensures.ops c.pop.ensures.depth (sym c.in-Argument.ensures) f.1),
      f.2,
    )

pub returns-in-Argument-clause-goes : goal.returns-in-Argument-clause-goes
returns-in-Argument-clause-goes g c w f =
    let some_open : 0 < c.args.table.now.depth = omega arith in
    c.operand.ensures.goes w (gives_argument (rule_of c.args.nodes.now (g.W.Store.base c.args.store.now))
    (g.W.Store.lists c.args.store.now) c.pop.new.self.ops c.pop.new.self.depth c.args.value w c.in-Argument.node
    c.in-Argument.function c.in-Argument.environment
    (popped (rule_of c.args.nodes.now (g.W.Store.base c.args.store.now)) (g.W.Store.lists c.args.store.now)
    c.args.table.now c.pop.new.self c.args.value w (Argument c.in-Argument.node c.in-Argument.function
    c.in-Argument.environment)
    some_open c.pop.ensures.ops c.pop.ensures.depth (sym c.in-Argument.ensures) f))

pub returns-in-Argument-clause-lessens : goal.returns-in-Argument-clause-lessens
returns-in-Argument-clause-lessens g c =
    let some_open : 0 < c.args.table.now.depth = omega arith in
    let f = c.requires.found in
    let hand = (popped (rule_of c.args.nodes.now (g.W.Store.base c.args.store.now)) (g.W.Store.lists c.args.store.now)
    c.args.table.now c.pop.new.self c.args.value f.0 (Argument c.in-Argument.node c.in-Argument.function
    c.in-Argument.environment)
    some_open c.pop.ensures.ops c.pop.ensures.depth (sym c.in-Argument.ensures) f.1) in
    let b = hand.open_for in
    c.operand.ensures.lessens _
    (gives_way (rule_of c.args.nodes.now (g.W.Store.base c.args.store.now)) (g.W.Store.lists c.args.store.now)
    c.args.table.now c.pop.new.self (Argument c.in-Argument.node c.in-Argument.function c.in-Argument.environment)
    c.in-Argument.node c.in-Argument.function c.in-Argument.environment b.0 b.1
    c.pop.ensures.ops c.pop.ensures.depth (sym c.in-Argument.ensures) refl b.3)

pub operand-requires-in-SumRight-clause-opening : goal.operand-requires-in-SumRight-clause-opening
operand-requires-in-SumRight-clause-opening g c =
    let some_open : 0 < c.args.table.now.depth = omega arith in
    let f = c.requires.found in (
      f.0,
      gives_sum (rule_of c.args.nodes.now (g.W.Store.base c.args.store.now)) (g.W.Store.lists c.args.store.now)
          c.pop.new.self.ops c.pop.new.self.depth c.args.value f.0 c.in-SumRight.node c.in-SumRight.l
          c.in-SumRight.environment (popped (rule_of c.args.nodes.now (g.W.Store.base c.args.store.now))
          (g.W.Store.lists c.args.store.now) c.args.table.now c.pop.new.self c.args.value f.0
          (SumRight c.in-SumRight.node c.in-SumRight.l c.in-SumRight.environment)
          some_open c.pop.ensures.ops c.pop.ensures.depth (sym c.in-SumRight.ensures) f.1),
      f.2,
    )

pub returns-in-SumRight-clause-goes : goal.returns-in-SumRight-clause-goes
returns-in-SumRight-clause-goes g c w f =
    let some_open : 0 < c.args.table.now.depth = omega arith in
    c.operand-in-SumRight.ensures.goes w (gives_sum (rule_of c.args.nodes.now (g.W.Store.base c.args.store.now))
    (g.W.Store.lists c.args.store.now) c.pop.new.self.ops c.pop.new.self.depth c.args.value w c.in-SumRight.node
    c.in-SumRight.l c.in-SumRight.environment (popped (rule_of c.args.nodes.now (g.W.Store.base c.args.store.now))
    (g.W.Store.lists c.args.store.now) c.args.table.now c.pop.new.self c.args.value w
    (SumRight c.in-SumRight.node c.in-SumRight.l c.in-SumRight.environment)
    some_open c.pop.ensures.ops c.pop.ensures.depth (sym c.in-SumRight.ensures) f))

pub returns-in-SumRight-clause-lessens : goal.returns-in-SumRight-clause-lessens
returns-in-SumRight-clause-lessens g c =
    let some_open : 0 < c.args.table.now.depth = omega arith in
    let f = c.requires.found in
    let hand = (popped (rule_of c.args.nodes.now (g.W.Store.base c.args.store.now)) (g.W.Store.lists c.args.store.now)
    c.args.table.now c.pop.new.self c.args.value f.0 (SumRight c.in-SumRight.node c.in-SumRight.l
    c.in-SumRight.environment)
    some_open c.pop.ensures.ops c.pop.ensures.depth (sym c.in-SumRight.ensures) f.1) in
    let b = hand.open_for in
    c.operand-in-SumRight.ensures.lessens _
    (gives_way (rule_of c.args.nodes.now (g.W.Store.base c.args.store.now)) (g.W.Store.lists c.args.store.now)
    c.args.table.now c.pop.new.self (SumRight c.in-SumRight.node c.in-SumRight.l c.in-SumRight.environment)
    c.in-SumRight.node c.in-SumRight.l c.in-SumRight.environment b.0 b.1
    c.pop.ensures.ops c.pop.ensures.depth (sym c.in-SumRight.ensures) refl b.3)

pub operand-requires-in-CompareRight-clause-opening : goal.operand-requires-in-CompareRight-clause-opening
operand-requires-in-CompareRight-clause-opening g c =
    let some_open : 0 < c.args.table.now.depth = omega arith in
    let f = c.requires.found in (
      f.0,
      gives_compare (rule_of c.args.nodes.now (g.W.Store.base c.args.store.now)) (g.W.Store.lists c.args.store.now)
          c.pop.new.self.ops c.pop.new.self.depth c.args.value f.0 c.in-CompareRight.node c.in-CompareRight.l
          c.in-CompareRight.environment (popped (rule_of c.args.nodes.now (g.W.Store.base c.args.store.now))
          (g.W.Store.lists c.args.store.now) c.args.table.now c.pop.new.self c.args.value f.0
          (CompareRight c.in-CompareRight.node c.in-CompareRight.l c.in-CompareRight.environment)
          some_open c.pop.ensures.ops c.pop.ensures.depth (sym c.in-CompareRight.ensures) f.1),
      f.2,
    )

pub returns-in-CompareRight-clause-goes : goal.returns-in-CompareRight-clause-goes
returns-in-CompareRight-clause-goes g c w f =
    let some_open : 0 < c.args.table.now.depth = omega arith in
    c.operand-in-CompareRight.ensures.goes w
    (gives_compare (rule_of c.args.nodes.now (g.W.Store.base c.args.store.now)) (g.W.Store.lists c.args.store.now)
    c.pop.new.self.ops c.pop.new.self.depth c.args.value w c.in-CompareRight.node c.in-CompareRight.l
    c.in-CompareRight.environment (popped (rule_of c.args.nodes.now (g.W.Store.base c.args.store.now))
    (g.W.Store.lists c.args.store.now) c.args.table.now c.pop.new.self c.args.value w
    (CompareRight c.in-CompareRight.node c.in-CompareRight.l c.in-CompareRight.environment)
    some_open c.pop.ensures.ops c.pop.ensures.depth (sym c.in-CompareRight.ensures) f))

pub returns-in-CompareRight-clause-lessens : goal.returns-in-CompareRight-clause-lessens
returns-in-CompareRight-clause-lessens g c =
    let some_open : 0 < c.args.table.now.depth = omega arith in
    let f = c.requires.found in
    let hand = (popped (rule_of c.args.nodes.now (g.W.Store.base c.args.store.now)) (g.W.Store.lists c.args.store.now)
    c.args.table.now c.pop.new.self c.args.value f.0 (CompareRight c.in-CompareRight.node c.in-CompareRight.l
    c.in-CompareRight.environment)
    some_open c.pop.ensures.ops c.pop.ensures.depth (sym c.in-CompareRight.ensures) f.1) in
    let b = hand.open_for in
    c.operand-in-CompareRight.ensures.lessens _
    (gives_way (rule_of c.args.nodes.now (g.W.Store.base c.args.store.now)) (g.W.Store.lists c.args.store.now)
    c.args.table.now c.pop.new.self (CompareRight c.in-CompareRight.node c.in-CompareRight.l
    c.in-CompareRight.environment) c.in-CompareRight.node c.in-CompareRight.l c.in-CompareRight.environment b.0 b.1
    c.pop.ensures.ops c.pop.ensures.depth (sym c.in-CompareRight.ensures) refl b.3)

pub ready-requires : goal.ready-requires
ready-requires g c =
    let some_open : 0 < c.args.table.now.depth = omega arith in
    let f = c.requires.found in
    let few = c.args.table.now.low in
    let deep = c.pop.ensures.depth in
    record {
      room = omega arith;
      ready = subst IsReady (sym c.in-Applied.is) tt;
      hand = (
        f.0,
        popped (rule_of c.args.nodes.now (g.W.Store.base c.args.store.now)) (g.W.Store.lists c.args.store.now)
            c.args.table.now c.pop.new.self c.args.value f.0 c.top-op.result
            some_open c.pop.ensures.ops c.pop.ensures.depth (sym c.top-op.ensures) f.1,
        f.2,
      );
    }

pub returns-in-Applied-clause-goes : goal.returns-in-Applied-clause-goes
returns-in-Applied-clause-goes g c w f =
    let some_open : 0 < c.args.table.now.depth = omega arith in
    c.ready.ensures.goes w (popped (rule_of c.args.nodes.now (g.W.Store.base c.args.store.now))
    (g.W.Store.lists c.args.store.now) c.args.table.now c.pop.new.self c.args.value w c.top-op.result
    some_open c.pop.ensures.ops c.pop.ensures.depth (sym c.top-op.ensures) f)

pub returns-in-Applied-clause-lessens : goal.returns-in-Applied-clause-lessens
returns-in-Applied-clause-lessens g c = c.ready.ensures.lessens _

pub ready-requires-in-Bound : goal.ready-requires-in-Bound
ready-requires-in-Bound g c =
    let some_open : 0 < c.args.table.now.depth = omega arith in
    let f = c.requires.found in
    let few = c.args.table.now.low in
    let deep = c.pop.ensures.depth in
    record {
      room = omega arith;
      ready = subst IsReady (sym c.in-Bound.is) tt;
      hand = (
        f.0,
        popped (rule_of c.args.nodes.now (g.W.Store.base c.args.store.now)) (g.W.Store.lists c.args.store.now)
            c.args.table.now c.pop.new.self c.args.value f.0 c.top-op.result
            some_open c.pop.ensures.ops c.pop.ensures.depth (sym c.top-op.ensures) f.1,
        f.2,
      );
    }

pub returns-in-Bound-clause-goes : goal.returns-in-Bound-clause-goes
returns-in-Bound-clause-goes g c w f =
    let some_open : 0 < c.args.table.now.depth = omega arith in
    c.ready-in-Bound.ensures.goes w (popped (rule_of c.args.nodes.now (g.W.Store.base c.args.store.now))
    (g.W.Store.lists c.args.store.now) c.args.table.now c.pop.new.self c.args.value w c.top-op.result
    some_open c.pop.ensures.ops c.pop.ensures.depth (sym c.top-op.ensures) f)

pub returns-in-Bound-clause-lessens : goal.returns-in-Bound-clause-lessens
returns-in-Bound-clause-lessens g c = c.ready-in-Bound.ensures.lessens _

pub ready-requires-in-SumLeft : goal.ready-requires-in-SumLeft
ready-requires-in-SumLeft g c =
    let some_open : 0 < c.args.table.now.depth = omega arith in
    let f = c.requires.found in
    let few = c.args.table.now.low in
    let deep = c.pop.ensures.depth in
    record {
      room = omega arith;
      ready = subst IsReady (sym c.in-SumLeft.is) tt;
      hand = (
        f.0,
        popped (rule_of c.args.nodes.now (g.W.Store.base c.args.store.now)) (g.W.Store.lists c.args.store.now)
            c.args.table.now c.pop.new.self c.args.value f.0 c.top-op.result
            some_open c.pop.ensures.ops c.pop.ensures.depth (sym c.top-op.ensures) f.1,
        f.2,
      );
    }

pub returns-in-SumLeft-clause-goes : goal.returns-in-SumLeft-clause-goes
returns-in-SumLeft-clause-goes g c w f =
    let some_open : 0 < c.args.table.now.depth = omega arith in
    c.ready-in-SumLeft.ensures.goes w (popped (rule_of c.args.nodes.now (g.W.Store.base c.args.store.now))
    (g.W.Store.lists c.args.store.now) c.args.table.now c.pop.new.self c.args.value w c.top-op.result
    some_open c.pop.ensures.ops c.pop.ensures.depth (sym c.top-op.ensures) f)

pub returns-in-SumLeft-clause-lessens : goal.returns-in-SumLeft-clause-lessens
returns-in-SumLeft-clause-lessens g c = c.ready-in-SumLeft.ensures.lessens _

pub ready-requires-in-CompareLeft : goal.ready-requires-in-CompareLeft
ready-requires-in-CompareLeft g c =
    let some_open : 0 < c.args.table.now.depth = omega arith in
    let f = c.requires.found in
    let few = c.args.table.now.low in
    let deep = c.pop.ensures.depth in
    record {
      room = omega arith;
      ready = subst IsReady (sym c.in-CompareLeft.is) tt;
      hand = (
        f.0,
        popped (rule_of c.args.nodes.now (g.W.Store.base c.args.store.now)) (g.W.Store.lists c.args.store.now)
            c.args.table.now c.pop.new.self c.args.value f.0 c.top-op.result
            some_open c.pop.ensures.ops c.pop.ensures.depth (sym c.top-op.ensures) f.1,
        f.2,
      );
    }

pub returns-in-CompareLeft-clause-goes : goal.returns-in-CompareLeft-clause-goes
returns-in-CompareLeft-clause-goes g c w f =
    let some_open : 0 < c.args.table.now.depth = omega arith in
    c.ready-in-CompareLeft.ensures.goes w (popped (rule_of c.args.nodes.now (g.W.Store.base c.args.store.now))
    (g.W.Store.lists c.args.store.now) c.args.table.now c.pop.new.self c.args.value w c.top-op.result
    some_open c.pop.ensures.ops c.pop.ensures.depth (sym c.top-op.ensures) f)

pub returns-in-CompareLeft-clause-lessens : goal.returns-in-CompareLeft-clause-lessens
returns-in-CompareLeft-clause-lessens g c = c.ready-in-CompareLeft.ensures.lessens _

pub ready-requires-in-Condition : goal.ready-requires-in-Condition
ready-requires-in-Condition g c =
    let some_open : 0 < c.args.table.now.depth = omega arith in
    let f = c.requires.found in
    let few = c.args.table.now.low in
    let deep = c.pop.ensures.depth in
    record {
      room = omega arith;
      ready = subst IsReady (sym c.in-Condition.is) tt;
      hand = (
        f.0,
        popped (rule_of c.args.nodes.now (g.W.Store.base c.args.store.now)) (g.W.Store.lists c.args.store.now)
            c.args.table.now c.pop.new.self c.args.value f.0 c.top-op.result
            some_open c.pop.ensures.ops c.pop.ensures.depth (sym c.top-op.ensures) f.1,
        f.2,
      );
    }

pub returns-in-Condition-clause-goes : goal.returns-in-Condition-clause-goes
returns-in-Condition-clause-goes g c w f =
    let some_open : 0 < c.args.table.now.depth = omega arith in
    c.ready-in-Condition.ensures.goes w (popped (rule_of c.args.nodes.now (g.W.Store.base c.args.store.now))
    (g.W.Store.lists c.args.store.now) c.args.table.now c.pop.new.self c.args.value w c.top-op.result
    some_open c.pop.ensures.ops c.pop.ensures.depth (sym c.top-op.ensures) f)

pub returns-in-Condition-clause-lessens : goal.returns-in-Condition-clause-lessens
returns-in-Condition-clause-lessens g c = c.ready-in-Condition.ensures.lessens _
