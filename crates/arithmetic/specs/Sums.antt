-- A sum as the code tells it.
use Rattle.std.specs.Prelude.{ℤ, Result, Ok, Err}
use Rattle.calculus.specs.Range.{Sum, within, out_of_range}
use Rattle.arithmetic.specs.declared.OutOfRange.{OutOfRange}

abbrev pub as_result : Sum → Result ℤ OutOfRange
as_result (within k) = Ok k
as_result out_of_range = Err (record {})
