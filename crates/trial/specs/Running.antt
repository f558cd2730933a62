-- What the run of a trial answers, and where it is left.
use Rattle.std.specs.Prelude.{◌≡◌, ℕ, ℤ, pos, List, length, replicate, Ok, Err, Result, IsOk}
use Rattle.syntax.specs.Tree.{Tree}
use Rattle.syntax.specs.declared.node.Node.{Node}
use Rattle.store.specs.Lists.{Lists}
use Rattle.values.specs.declared.Value.{Value}
use Rattle.readings.specs.Behind.{as_values, behind}
use Rattle.reckoning.specs.Room.{Room, free}
use Rattle.reckoning.specs.Room as reckoning
use Rattle.reckoning.specs.Reckoning.{Reckoned, State, waiting, over, no_store, no_stack, reckoned, state}
use Rattle.machine.specs.Handles.{Owned}
use Rattle.machine.specs.Places.{rule_of}
use Rattle.machine.specs.Running.{rooted}
use Rattle.run.specs.Faults.{rewind_answer, grant_answer}
use Rattle.run.specs.Told.{state_of}
use Rattle.run.specs.declared.fault.RunFault.{RunFault}
use Rattle.run.specs.declared.report.Report.{Report}
use Rattle.trial.specs.declared.fault.TrialFault.{TrialFault}
use Rattle.trial.specs.declared.fault.TrialFault.TheVariants.{Run}

-- One grant of n steps in a state, at a count: where the run does not wait, none is made, and so none is refused.
abbrev pub one_grant : State → ℕ → ℕ → Result (Unit {0}) RunFault
one_grant waiting count n = grant_answer waiting count n
one_grant (over answer) count n = Ok tt
one_grant (no_store node) count n = Ok tt
one_grant (no_stack node) count n = Ok tt

-- what that adds to the steps granted
abbrev pub steps_added : State → Result (Unit {0}) RunFault → ℕ → ℕ
steps_added waiting (Ok u) n = n
steps_added waiting (Err f) n = 0
steps_added (over answer) reply n = 0
steps_added (no_store node) reply n = 0
steps_added (no_stack node) reply n = 0

-- where the run of a tree on these readings is reckoned to be, after g granted steps, in a store of this room
abbrev pub run_at : Room → List ℤ → Tree → ℕ → Reckoned
run_at room readings t g = reckoned (reckoning.behind (length readings) room) readings t g

-- the answer of rewind, and if that is allowed, of the grant
abbrev pub after_rewind : Result (Unit {0}) RunFault → Result (Unit {0}) RunFault → Result (Unit {0}) RunFault
after_rewind (Ok u) grant = grant
after_rewind (Err f) grant = Err f

abbrev pub grant_of : Room → List ℤ → Tree → ℕ → Result (Unit {0}) RunFault
grant_of room readings t n = one_grant (state (run_at room readings t 0)) 0 n

-- 20 where the readings are not as many as the rule's, r; then 22 where the run waits and n is not allowed
abbrev pub run_answer : Room → ℕ → Tree → List ℤ → ℕ → Result (Unit {0}) RunFault
run_answer room r t readings n = after_rewind (rewind_answer r (length readings)) (grant_of room readings t n)

-- the readings that a run is left with, and its granted steps
pub record Course : Type 0 where
  pub readings : List ℤ
  pub granted : ℕ

abbrev pub course : Result (Unit {0}) RunFault → ℕ → List ℤ → ℕ → Course
course (Ok u) r readings g = record { readings = readings; granted = g }
course (Err f) r readings g = record { readings = replicate r (pos 0); granted = 0 }

-- those it was given, with the steps if it waited for them; where it refused the readings, those it was started with,
-- all 0
abbrev pub run_course : Room → ℕ → Tree → List ℤ → ℕ → Course
run_course room r t readings n =
    course (rewind_answer r (length readings)) r readings
    (steps_added (state (run_at room readings t 0)) (grant_of room readings t n) n)

abbrev pub run_end : Room → ℕ → Tree → List ℤ → ℕ → Reckoned
run_end room r t readings n =
    let end = run_course room r t readings n in run_at room end.readings t end.granted

-- nothing was refused, or this was, as a refusal of the run
abbrev pub RunAnswers : {A : Type 0} → Result (Unit {0}) RunFault → Result A TrialFault → Type 0
RunAnswers (Ok u) result = IsOk result
RunAnswers (Err f) result = result ≡ Err (Run f)

-- state and count are those reckoned
pub record Tells (report : Report) (s : Reckoned) : Type 0 where
  pub in_state : state_of report.state ≡ state s
  pub counted : report.count ≡ s.count

-- The free room is the whole less the costs of the environments made. Each of these is the list of a handle of its own,
-- and no other handle but 0, the readings, has a list.
pub record Leaves (room : Room) (ns : List Node) (readings : List ℤ) (s : Reckoned) (left : ℕ) (lists : Lists Value) :
    Type 0 where
  pub left_free : left ≡ free (reckoning.behind (length readings) room) s.made
  pub lists_made : Owned (rule_of ns readings) (behind (as_values readings) lists) (rooted 0 readings) s.made

-- how the run of a trial leaves its store
abbrev pub RunLeaves : Room → ℕ → Tree → List Node → List ℤ → ℕ → ℕ → Lists Value → Type 0
RunLeaves room r t ns readings n left lists =
    Leaves room ns (run_course room r t readings n).readings (run_end room r t readings n) left lists
