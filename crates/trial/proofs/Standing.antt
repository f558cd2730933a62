-- Where the run of a trial stands.
use Rattle.std.proofs.Common.{◌≡◌, ℕ, ◌+◌, ℤ, List, length, Ok, Err, Result, sym, ap, ◌∙◌, subst, true≢false}
use Rattle.std.proofs.Common.{zero-add, IfOk}
use Rattle.syntax.specs.Tree.{Tree}
use Rattle.store.specs.Lists.{Lists}
use Rattle.values.specs.declared.Value.{Value}
use Rattle.reckoning.specs.Room.{Room}
use Rattle.reckoning.specs.Reckoning.{Reckoned, state}
use Rattle.machine.specs.Reducing.{room_of}
use Rattle.run.specs.Faults.{rewind_answer}
use Rattle.run.specs.Told.{state_of}
use Rattle.run.specs.Standing.{Seen, IsAt, reported}
use Rattle.run.specs.declared.fault.RunFault.{RunFault}
use Rattle.run.specs.declared.report.Report.{Report}
use Rattle.law.proofs.Ending.{told_state}
use Rattle.trial.specs.declared.fault.TrialFault.{TrialFault}
use Rattle.trial.specs.declared.fault.TrialFault.TheVariants.{Text, Rule, Run}
use Rattle.trial.specs.Running.{one_grant, steps_added, run_at, grant_of, run_course, course, RunAnswers, Tells}
use Rattle.trial.specs.declared.trying.Written.{Written}
use Rattle.trial.specs.SettingUp.{concluded}
use Rattle.trial.specs.Trying.{StoreKept}
use Rattle.trial.proofs.Setting.{RunOnly}

-- whatever the calls of a run answer, the result of a trial is none of text or rule
pub run_only : {A : Type 0} (answer : Result (Unit {0}) RunFault) (result : Result A TrialFault)
    → RunAnswers answer result → RunOnly result
run_only (Ok u) (Ok x) h = tt
run_only (Ok u) (Err f) h = absurd (true≢false (sym h))
run_only (Err f) result h = subst (λ r. RunOnly r) (sym h) tt

-- what the run answers and tells is what the trial does
pub answers_concluded : (written : Written) (a : Result (Unit {0}) RunFault) (answer : Result Report TrialFault)
    → RunAnswers a answer →
    RunAnswers a (concluded written answer)
answers_concluded written (Ok u) (Ok report) h = h
answers_concluded written (Ok u) (Err f) h = h
answers_concluded written (Err f) answer h = ap (concluded written) h

pub tells_concluded : (written : Written) (s : Reckoned) (answer : Result Report TrialFault) →
    IfOk answer (λ report. Tells report s) → IfOk (concluded written answer) (λ done. Tells done.report s)
tells_concluded written s (Ok report) h = h
tells_concluded written s (Err f) h = h

pub store_run_in : {S : Type 0} (written : Written) (before after : S) (answer : Result Report TrialFault)
    → RunOnly answer →
    StoreKept before after (concluded written answer)
store_run_in written before after (Ok report) only = tt
store_run_in written before after (Err (Text f)) only = absurd only
store_run_in written before after (Err (Rule f)) only = absurd only
store_run_in written before after (Err (Run f)) only = tt

module _ {S : Type 0} (lists : S → Lists Value) (whole room : S → ℕ) (cost : S → ℕ → ℕ) where
  abbrev pub room_here : Seen S → Room
  room_here run = room_of (whole run.store) (cost run.store)

  -- a run that was just rewound is in the state in which its course begins
  pub begins : (run : Seen S) (t : Tree) (readings : List ℤ) → IsAt lists whole room cost run t readings 0 →
      state_of (reported run).state ≡ state (run_at (room_here run) readings t 0)
  begins run t readings at = told_state run.machine.state ∙ at.stands.in_state

  pub begins_at_0 : (run : Seen S) (t : Tree) (readings : List ℤ) → IsAt lists whole room cost run t readings 0 →
      (reported run).count ≡ 0
  begins_at_0 run t readings at = at.stands.counted

  -- a run that was rewound, and granted what it waited for, is where its course ends
  pub goes_its_course : (old mid new : Seen S) (t : Tree) (readings : List ℤ) (n : ℕ)
      (answer : Result (Unit {0}) RunFault) →
      whole mid.store ≡ whole old.store → cost mid.store ≡ cost old.store →
      rewind_answer old.rule.readings (length readings) ≡ Ok tt → IsAt lists whole room cost mid t readings 0 →
      answer ≡ one_grant (state_of (reported mid).state) (reported mid).count n →
      (IsAt lists whole room cost mid t readings 0 →
      IsAt lists whole room cost new t readings (0 + steps_added (state_of (reported mid).state) answer n)) →
      IsAt lists whole room cost new t (run_course (room_here old) old.rule.readings t readings n).readings
      (run_course (room_here old) old.rule.readings t readings n).granted
  goes_its_course old mid new t readings n answer same_whole same_cost allowed at replied goes =
      let same_room : room_here mid ≡ room_here old =
      ap (λ w. room_of w (cost mid.store)) same_whole ∙ ap (λ f. room_of (whole old.store) f) same_cost in
      let first = state (run_at (room_here old) readings t 0) in
      let in_state : state_of (reported mid).state ≡ first =
      begins mid t readings at ∙ ap (λ r. state (run_at r readings t 0)) same_room in
      let due : answer ≡ grant_of (room_here old) readings t n =
      replied ∙ ap (λ s. one_grant s (reported mid).count n) in_state ∙ ap (λ k. one_grant first k n)
      (begins_at_0 mid t readings at) in
      let granted = steps_added first (grant_of (room_here old) readings t n) n in
      let added : 0 + steps_added (state_of (reported mid).state) answer n ≡ granted =
      zero-add _ ∙ ap (λ s. steps_added s answer n) in_state ∙ ap (λ a. steps_added first a n) due in
      let there = subst (λ g. IsAt lists whole room cost new t readings g) added (goes at) in
      subst (λ a. IsAt lists whole room cost new t (course a old.rule.readings readings granted).readings
      (course a old.rule.readings readings granted).granted) (sym allowed) there
