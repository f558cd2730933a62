-- The number and the place of each refusal.
use Rattle.std.specs.Prelude.{ℕ}
use Rattle.record.specs.declared.fault.RecordFault.{RecordFault}
use Rattle.record.specs.declared.fault.RecordFault.TheVariants.{Length, Version, Readings, NoNode, TooManyNodes}
use Rattle.record.specs.declared.fault.RecordFault.TheVariants.{UnknownKind, CutShort, Unbound, Spare}

abbrev pub number_of : RecordFault → ℕ
number_of Length = 1
number_of Version = 2
number_of Readings = 3
number_of (NoNode place) = 4
number_of (TooManyNodes place) = 5
number_of (UnknownKind place) = 6
number_of (CutShort place) = 7
number_of (Unbound place) = 8
number_of (Spare place) = 9

-- 0 for 1, 2 for 2, 3 for 3, else the place that goes along
abbrev pub place_of : RecordFault → ℕ
place_of Length = 0
place_of Version = 2
place_of Readings = 3
place_of (NoNode place) = place
place_of (TooManyNodes place) = place
place_of (UnknownKind place) = place
place_of (CutShort place) = place
place_of (Unbound place) = place
place_of (Spare place) = place
