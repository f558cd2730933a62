-- What is told at the end of a run, from where the run stands.
use Rattle.std.proofs.Common.{◌≡◌, ℕ, List, length, refl, ◌∙◌, subst}
use Rattle.syntax.specs.Tree.{Tree}
use Rattle.store.specs.Lists.{Lists}
use Rattle.values.specs.declared.Value.{Value}
use Rattle.values.specs.declared.Value.TheVariants as value
use Rattle.readings.specs.Behind.{as_values, behind}
use Rattle.reckoning.specs.Room.{Room}
use Rattle.reckoning.specs.Room as reckoning
use Rattle.reckoning.specs.Reckoning.{reckoned}
use Rattle.machine.specs.Places.{rule_of}
use Rattle.machine.specs.Reducing.{room_of}
use Rattle.machine.specs.Running.{StandsAt, rooted}
use Rattle.machine.specs.Running as machine
use Rattle.machine.specs.declared.steps.State as machine_state
use Rattle.machine.specs.declared.steps.State.TheVariants.{Waiting, Done, Range, NoStore, NoStack}
use Rattle.run.specs.Told.{state_of, told}
use Rattle.run.specs.Standing.{Seen, IsAt, reported}
use Rattle.law.specs.declared.turn.Turn.{Turn}
use Rattle.law.specs.Turns.{started, since}
use Rattle.law.specs.Law.{played, AsReckoned}

-- what is told of a machine's state says of the stage what that state says
pub told_state : (s : machine_state.State) → state_of (told s) ≡ machine.state_of s
told_state Waiting = refl
told_state (Done (value.Number k)) = refl
told_state (Done (value.Truth b)) = refl
told_state (Done (value.Function n h)) = refl
told_state (Range n out) = refl
told_state (NoStore n) = refl
told_state (NoStack n) = refl

module _ {S : Type 0} (lists : S → Lists Value) (whole room : S → ℕ) (cost : S → ℕ → ℕ) where
  pub ended : (run : Seen S) (r : ℕ) (t : Tree) (turns : List Turn) →
      IsAt lists whole room cost run t (since (started r) turns).readings (since (started r) turns).granted →
      length (since (started r) turns).readings ≡ r →
      AsReckoned (played (room_of (whole run.store) (cost run.store)) r t run.rule.nodes.items turns (reported run)
      (room run.store)
      (lists run.store))
  ended run r t turns at same =
      let now = since (started r) turns in
      let stands = subst (λ n. StandsAt (rule_of run.rule.nodes.items now.readings) (behind (as_values now.readings)
      (lists run.store))
      (reckoning.behind n (room_of (whole run.store) (cost run.store))) (room run.store) (rooted 0 now.readings)
      run.machine
      (reckoned (reckoning.behind n (room_of (whole run.store) (cost run.store))) now.readings t now.granted)) same
      at.stands in
      record {
        in_state = told_state run.machine.state ∙ stands.in_state;
        counted = stands.counted;
        left_free = stands.left_free;
        lists_made = stands.lists_made;
      }
