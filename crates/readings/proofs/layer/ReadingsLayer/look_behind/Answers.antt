use Rattle.readings.specs.Behind.{values_of}
use Rattle.readings.proofs.Layered.{looked_ok, looked_no_list, looked_beyond, beyond_told, look_has_room}
use Rattle.readings.proofs.layer.ReadingsLayer.look_behind.Goals as goal

pub reading-requires : goal.reading-requires
reading-requires g c =
    beyond_told (values_of c.args.self.now.readings) (g.S.Store.lists c.args.self.now.below) c.args.handle c.args.index
    c.in-Err-Beyond.length (rw c.in-Err-Beyond.field-0-is at c.in-Err-Beyond.ensures)

pub returns-in-Err-Beyond : goal.returns-in-Err-Beyond
returns-in-Err-Beyond g c =
    looked_beyond (values_of c.args.self.now.readings) (g.S.Store.lists c.args.self.now.below) c.args.handle
    c.args.index
    c.in-Err-Beyond.length _ (rw c.in-Err-Beyond.field-0-is at c.in-Err-Beyond.ensures) c.reading.ensures

pub returns-in-Ok : goal.returns-in-Ok
returns-in-Ok g c =
    looked_ok (values_of c.args.self.now.readings) (g.S.Store.lists c.args.self.now.below) c.args.handle c.args.index
    _ c.in-Ok.ensures

pub returns-in-Err-NoList : goal.returns-in-Err-NoList
returns-in-Err-NoList g c =
    looked_no_list (values_of c.args.self.now.readings) (g.S.Store.lists c.args.self.now.below) c.args.handle
    c.args.index
    (rw c.in-Err-NoList.field-0-is at c.in-Err-NoList.ensures)

pub unreachable-requires : goal.unreachable-requires
unreachable-requires g c =
    look_has_room (g.S.Store.lists c.args.self.now.below) c.args.handle c.args.index
    (rw c.in-Err-NoRoom.field-0-is at c.in-Err-NoRoom.ensures)
