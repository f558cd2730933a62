use Rattle.std.proofs.Common.{arith}
use Rattle.linked.proofs.Telling.{reached_down, reached_element}
use Rattle.linked.proofs.linked.near.Goals as goal

pub loop-left-preserved : goal.loop-left-preserved
loop-left-preserved g c =
    reached_down g.T.Blank.unwritten c.args.cells.now c.requires.told c.args.handle c.args.index c.loop-left.at
    c.loop-left.left
    c.index-cells-at.result c.loop-left.invariant c.index-cells-at.is c.loop-left-test.true

pub returns : goal.returns
returns g c =
    reached_element g.T.Blank.unwritten c.args.cells.now c.requires.told c.args.handle c.args.index c.loop-left.at
    c.loop-left.left
    c.index-cells-at-2.result c.loop-left.invariant c.index-cells-at-2.is _ (omega (arith, c.loop-left-test.false))
