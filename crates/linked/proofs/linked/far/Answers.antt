use Rattle.std.proofs.Common.{arith}
use Rattle.linked.proofs.Telling.{reached_tells, reached_low, reached_far}
use Rattle.linked.proofs.linked.far.Goals as goal

pub overflow_cast-left : goal.overflow_cast-left
overflow_cast-left g c =
    let low = reached_low g.T.Blank.unwritten c.args.cells.now c.requires.told c.args.handle c.args.index
    c.loop-left.at c.loop-left.left
    c.index-cells-at.result c.loop-left.invariant c.index-cells-at.is in
    let fits = c.loop-left.auto.at-fits in
    omega (arith, low, fits)

pub overflow_cast-at : goal.overflow_cast-at
overflow_cast-at g c =
    let tells = reached_tells g.T.Blank.unwritten c.args.cells.now c.requires.told c.args.handle c.args.index
    c.loop-left.at c.loop-left.left
    c.index-cells-at.result c.loop-left.invariant c.index-cells-at.is in
    let low = tells.far_down in
    let fits = c.loop-left.auto.at-fits in
    omega (arith, low, fits)

pub loop-left-preserved : goal.loop-left-preserved
loop-left-preserved g c =
    reached_far g.T.Blank.unwritten c.args.cells.now c.requires.told c.args.handle c.args.index c.loop-left.at
    c.loop-left.left
    c.index-cells-at.result c.loop-left.invariant c.index-cells-at.is c.loop-left-test.true
