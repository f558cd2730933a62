-- What ask tells, in plain numbers.
use Rattle.std.specs.Prelude.{ℤ, Bool, true, false, pos}
use Rattle.run.specs.declared.report.Report.{Report}
use Rattle.run.specs.declared.report.State.{State}
use Rattle.run.specs.declared.report.State.TheVariants.{Waiting, Done, Range, NoStore, NoStack}
use Rattle.run.specs.declared.report.Found.TheVariants.{Number, Truth, Function}
use Rattle.firmware.specs.declared.report.Told.{Told}
use Rattle.firmware.specs.declared.report.Figures.{Figures}

abbrev truth_value : Bool → ℤ
truth_value false = pos 0
truth_value true = pos 1

-- the number of a state, the answer, and the node that the state names
abbrev pub figures : State → Figures
figures Waiting = record { state = 1; value = pos 0; node = 0 }
figures (Done (Number k)) = record { state = 2; value = k; node = 0 }
figures (Done (Truth b)) = record { state = 3; value = truth_value b; node = 0 }
figures (Done (Function n)) = record { state = 4; value = pos 0; node = n }
figures (Range n out) = record { state = 5; value = pos 0; node = n }
figures (NoStore n) = record { state = 6; value = pos 0; node = n }
figures (NoStack n) = record { state = 7; value = pos 0; node = n }

-- a report in plain numbers
abbrev pub plain : Report → Told
plain report = let f = figures report.state in
    record { count = report.count; state = f.state; value = f.value; node = f.node }

-- what is told where no run is open
abbrev pub no_run : Told
no_run = record { count = 0; state = 0; value = pos 0; node = 0 }
