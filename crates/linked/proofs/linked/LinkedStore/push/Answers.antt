use Rattle.std.proofs.Common.{◌<◌, length, arith, length-set}
use Rattle.linked.proofs.Walks.{extends}
use Rattle.linked.proofs.Telling.{told_set, spare_set}
use Rattle.linked.proofs.linked.LinkedStore.push.Goals as goal

pub invariant_of-self-2 : goal.invariant_of-self-2
invariant_of-self-2 g c =
    let blank = g.T.Blank.unwritten in
    let store = c.args.self.now in
    let made = store.inside in
    let inside : store.made < length store.cells.now = omega (arith, made, c.requires.room) in
    let long = length-set store.cells.now store.made c.heading-cell.result in
    record {
      inside = omega (arith, long, c.requires.room);
      told = told_set blank store.cells.now store.made c.heading-cell.result inside store.spare store.told
          c.heading-cell.ensures.tells;
      spare = spare_set blank store.cells.now store.made c.heading-cell.result inside store.spare;
    }

pub returns-clause-pushed : goal.returns-clause-pushed
returns-clause-pushed g c =
    let store = c.args.self.now in
    extends g.T.Blank.unwritten store.cells.now store.made c.args.handle c.args.element c.heading-cell.result
    c.requires.known
    (omega (arith, c.requires.room)) c.heading-cell.ensures.element c.heading-cell.ensures.below
