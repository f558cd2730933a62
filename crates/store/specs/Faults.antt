-- The number of each refusal of a store.
use Rattle.std.specs.Prelude.{ℕ}
use Rattle.store.specs.declared.fault.StoreFault.{StoreFault}
use Rattle.store.specs.declared.fault.StoreFault.TheVariants.{NoList, NoRoom, Beyond}

-- 31: the handle has no list; 32: the cost is above the free room;
-- 33: the index is not below the length, which the refusal carries
abbrev pub number_of : StoreFault → ℕ
number_of NoList = 31
number_of NoRoom = 32
number_of (Beyond length) = 33
