use Rattle.std.proofs.Common.{refl}
use Rattle.firmware_c.proofs.starting.over.Goals as goal

pub returns : goal.returns
returns c = (c.new.result, refl, c.new.ensures.cleared, c.new.ensures.wiped)
