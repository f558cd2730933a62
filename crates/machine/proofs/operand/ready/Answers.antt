use Rattle.std.proofs.Common.{refl, arith}
use Rattle.machine.proofs.Settling.{put_back}
use Rattle.machine.proofs.Telling.{none_too_many}
use Rattle.machine.proofs.operand.ready.Goals as goal
use Rattle.machine.specs.Places.{rule_of}

pub returns-then-left-eq0-clause-goes : goal.returns-then-left-eq0-clause-goes
returns-then-left-eq0-clause-goes g c w f = (
  c.if-left-eq0.true,
  λ h. refl,
  refl,
  put_back (rule_of c.args.nodes.now (g.W.Store.base c.args.store.now)) (g.W.Store.lists c.args.store.now)
      c.args.table.now.ops c.args.table.now.depth c.push.new.self c.args.op c.args.value w c.requires.ready
      c.push.ensures.ops c.push.ensures.depth f,
)

pub returns-in-Found-clause-goes : goal.returns-in-Found-clause-goes
returns-in-Found-clause-goes g c w f =
    let m = c.in-Found.ensures.reduces c.args.table.now w f in (
      omega arith,
      none_too_many (rule_of c.args.nodes.now (g.W.Store.base c.args.store.now))
          (g.W.Store.lists c.args.store.now) c.args.table.now.ops c.args.table.now.depth c.args.op c.args.value w
          c.requires.ready c.requires.room f,
      m.0,
      m.1,
      m.2,
    )

pub returns-in-Body-clause-goes : goal.returns-in-Body-clause-goes
returns-in-Body-clause-goes g c w f =
    let m = c.in-Body.ensures.reduces c.args.table.now w f in (
      omega arith,
      none_too_many (rule_of c.args.nodes.now (g.W.Store.base c.args.store.now))
          (g.W.Store.lists c.args.store.now) c.args.table.now.ops c.args.table.now.depth c.args.op c.args.value w
          c.requires.ready c.requires.room f,
      m.0,
      m.1,
      m.2,
    )

pub returns-in-Range-clause-goes : goal.returns-in-Range-clause-goes
returns-in-Range-clause-goes g c w f =
    let m = c.in-Range.ensures.reduces c.args.table.now w f in (
      m.1,
      m.2,
      (
        none_too_many (rule_of c.args.nodes.now (g.W.Store.base c.args.store.now))
            (g.W.Store.lists c.args.store.now) c.args.table.now.ops c.args.table.now.depth c.args.op c.args.value w
            c.requires.ready c.requires.room f,
        m.0,
      ),
    )

pub returns-in-NoStore-clause-goes : goal.returns-in-NoStore-clause-goes
returns-in-NoStore-clause-goes g c w f =
    let m = c.in-NoStore.ensures.reduces c.args.table.now w f in (
      m.4,
      m.5,
      (
        omega arith,
        none_too_many (rule_of c.args.nodes.now (g.W.Store.base c.args.store.now))
            (g.W.Store.lists c.args.store.now) c.args.table.now.ops c.args.table.now.depth c.args.op c.args.value w
            c.requires.ready c.requires.room f,
        m.0,
        m.1,
        m.2,
        m.3,
      ),
    )
