-- What ask tells, and what that says of a stage.
use Rattle.calculus.specs.Length.{Answer}
use Rattle.reckoning.specs.Reckoning as plain
use Rattle.values.specs.declared.Value.TheVariants as value
use Rattle.machine.specs.declared.steps.State as machine
use Rattle.machine.specs.declared.steps.State.TheVariants as machine_state
use Rattle.run.specs.declared.report.Found.{Found}
use Rattle.run.specs.declared.report.Found.TheVariants.{Number, Truth, Function}
use Rattle.run.specs.declared.report.State.{State}
use Rattle.run.specs.declared.report.State.TheVariants.{Waiting, Done, Range, NoStore, NoStack}

-- of a value, as far as it is told: the number, the truth, or the node of the function
abbrev pub answer_of : Found → Answer
answer_of (Number k) = Answer.number k
answer_of (Truth b) = Answer.truth b
answer_of (Function n) = Answer.function n

abbrev pub state_of : State → plain.State
state_of Waiting = plain.waiting
state_of (Done found) = plain.over (answer_of found)
state_of (Range n out) = plain.over (Answer.range n)
state_of (NoStore n) = plain.no_store n
state_of (NoStack n) = plain.no_stack n

-- short of room
abbrev pub IsShort : State → Type 0
IsShort Waiting = ⊥
IsShort (Done found) = ⊥
IsShort (Range n out) = ⊥
IsShort (NoStore n) = Unit {0}
IsShort (NoStack n) = Unit {0}

-- what is told of the state of a machine: all but a function's environment
abbrev pub told : machine.State → State
told machine_state.Waiting = Waiting
told (machine_state.Done (value.Number k)) = Done (Number k)
told (machine_state.Done (value.Truth b)) = Done (Truth b)
told (machine_state.Done (value.Function n h)) = Done (Function n)
told (machine_state.Range n out) = Range n out
told (machine_state.NoStore n) = NoStore n
told (machine_state.NoStack n) = NoStack n
