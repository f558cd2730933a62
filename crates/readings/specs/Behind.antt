-- The readings behind every list.
use Rattle.std.specs.Prelude.{◌≡◌, ℕ, ◌+◌, ◌-◌, ◌<◌, ◌≤◌, List, ◌++◌, map, length, take, ℤ, Some, None, Ok, Err}
use Rattle.std.specs.Prelude.{Option, Result, slice_index_or}
use Rattle.store.specs.Lists.{Lists}
use Rattle.store.specs.declared.fault.StoreFault.{StoreFault}
use Rattle.store.specs.declared.fault.StoreFault.TheVariants.{Beyond}
use Rattle.values.specs.declared.Value.{Value}
use Rattle.values.specs.declared.Value.TheVariants.{Number}
use Rattle.readings.specs.declared.readings_list.Readings.{Readings}

-- the readings, reading 0 first
abbrev pub numbers_of : Readings → List ℤ
numbers_of r = take r.count r.numbers

abbrev pub as_values : List ℤ → List Value
as_values numbers = map Number numbers

-- the readings as run values
abbrev pub values_of : Readings → List Value
values_of r = as_values (numbers_of r)

-- a list with the readings rs behind it
abbrev pub added : {E : Type 0} → List E → Option (List E) → Option (List E)
added rs None = None
added rs (Some l) = Some (l ++ rs)

-- the lists below, each with the readings rs behind it
abbrev pub behind : List Value → Lists Value → Lists Value
behind rs lists h = added rs (lists h)

-- the cost of the list below
abbrev pub cost_below : List Value → (ℕ → ℕ) → ℕ → ℕ
cost_below rs cost n = cost (n - length rs)

-- the element at a place, where there is one
abbrev pub Picked : {E : Type 0} → List E → ℕ → Option E → Type 0
Picked l place None = length l ≤ place
Picked l place (Some x) = (place < length l) × (x ≡ slice_index_or l place x)

-- the answer at an index that lies beyond the n elements below: a reading, or the whole length
pub record Read (rs : List Value) (n i : ℕ) (r : Result Value StoreFault) : Type 0 where
  pub beyond : n + length rs ≤ i → r ≡ Err (Beyond (n + length rs))
  pub found : i < n + length rs → (x : Value) × (r ≡ Ok x) × (x ≡ slice_index_or rs (i - n) x)
