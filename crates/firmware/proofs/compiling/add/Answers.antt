use Rattle.std.specs.Prelude.{Ok, Err}
use Rattle.firmware.proofs.compiling.add.Goals as goal

pub returns-in-Ok : goal.returns-in-Ok
returns-in-Ok c = (Ok c.in-Ok.field-0, c.in-Ok.ensures, c.done.ensures)

pub returns-in-Err : goal.returns-in-Err
returns-in-Err c = (Err c.in-Err.fault, c.in-Err.ensures, c.unnamed.ensures)
