use Rattle.std.proofs.Common.{arith}
use Rattle.flat.proofs.Copies.{copy_more}
use Rattle.flat.proofs.flat_store.copy.Goals as goal

pub loop-j-preserved : goal.loop-j-preserved
loop-j-preserved g c =
    copy_more g.T.Blank.unwritten c.loop-j.slots c.args.slots.now c.args.from c.args.to c.args.count c.loop-j.j
    c.index-slots-from.result c.element.result (omega arith) (omega arith) (omega arith)
    c.element.ensures c.index-slots-from.is c.loop-j.invariant.0 c.loop-j.invariant.1
