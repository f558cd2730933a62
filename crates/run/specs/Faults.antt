-- When a run refuses, and the number of each refusal.
use Rattle.std.specs.Prelude.{ℕ, ◌-◌, ◌&&◌, ◌==◌, nat_le, cond, Ok, Err, Result}
use Rattle.reckoning.specs.Reckoning.{State, waiting, over, no_store, no_stack}
use Rattle.run.specs.declared.fault.RunFault.{RunFault}
use Rattle.run.specs.declared.fault.RunFault.TheVariants.{WrongCount, NotWaiting, WrongSteps}

-- 20: another count of readings than the rule's; 21: the run does not wait; 22: the steps are not from 1 to
-- 1,000,000,000 less the count
abbrev pub number_of : RunFault → ℕ
number_of (WrongCount wanted given) = 20
number_of NotWaiting = 21
number_of (WrongSteps most) = 22

-- as many steps as a run may be granted from its start or rewind on
abbrev pub most_steps : ℕ
most_steps = 1000000000

-- The answer of rewind, with a rule of so many readings and so many given.
abbrev pub rewind_answer : ℕ → ℕ → Result (Unit {0}) RunFault
rewind_answer wanted given = cond (given == wanted) (Ok tt) (Err (WrongCount wanted given))

-- The answer of grant in a state, at a count, for n steps: is the run waiting, then, is n from 1 to what is left?
abbrev pub grant_answer : State → ℕ → ℕ → Result (Unit {0}) RunFault
grant_answer waiting count n = cond (nat_le 1 n && nat_le n (most_steps - count)) (Ok tt)
    (Err (WrongSteps (most_steps - count)))
grant_answer (over answer) count n = Err NotWaiting
grant_answer (no_store node) count n = Err NotWaiting
grant_answer (no_stack node) count n = Err NotWaiting
