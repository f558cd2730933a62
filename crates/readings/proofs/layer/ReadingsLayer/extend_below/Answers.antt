use Rattle.std.proofs.Common.{refl}
use Rattle.readings.specs.Behind.{values_of}
use Rattle.readings.proofs.Layered.{extended_behind}
use Rattle.readings.proofs.layer.ReadingsLayer.extend_below.Goals as goal

pub returns : goal.returns
returns g c = record {
  extended = extended_behind (values_of c.args.self.now.readings) _ _ _ _ _ _ _ _ c.extend.ensures.extended;
  readings = refl;
  whole = c.extend.ensures.whole;
  cost = c.extend.ensures.cost;
}
