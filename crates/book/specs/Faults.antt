-- The number and the place of each refusal of a name.
use Rattle.std.specs.Prelude.{ℕ}
use Rattle.book.specs.declared.fault.NameFault.{NameFault}
use Rattle.book.specs.declared.fault.NameFault.TheVariants.{Full, NoName, TooLong, Taken}

abbrev pub number_of : NameFault → ℕ
number_of Full = 53
number_of NoName = 53
number_of TooLong = 53
number_of Taken = 53

abbrev pub place_of : NameFault → ℕ
place_of Full = 0
place_of NoName = 0
place_of TooLong = 0
place_of Taken = 0
