-- The law of whole runs.
use Rattle.std.specs.Prelude.{◌≡◌, ◌↔◌, ◌⊎◌, ℕ, ℤ, ◌<◌, ◌≤◌, min, List, length}
use Rattle.std.proofs.Math.Option.{some}
use Rattle.syntax.specs.Tree.{Tree}
use Rattle.syntax.specs.declared.node.Node.{Node}
use Rattle.store.specs.Lists.{Lists}
use Rattle.values.specs.declared.Value.{Value}
use Rattle.readings.specs.Behind.{as_values, behind}
use Rattle.typing.specs.Judging.{TypeAnswer}
use Rattle.calculus.specs.Term.{Term}
use Rattle.calculus.specs.Types.{Ty, RuleHas, Belongs}
use Rattle.calculus.specs.Rules.{Leaves}
use Rattle.calculus.specs.Stuck.{IsStuck}
use Rattle.calculus.specs.Stages.{start, stage}
use Rattle.calculus.specs.Length.{Length, value_answer}
use Rattle.reckoning.specs.Room.{Room, free}
use Rattle.reckoning.specs.Room as reckoning
use Rattle.reckoning.specs.Reckoning.{Reckoned, reckoned, state}
use Rattle.machine.specs.Handles.{Owned}
use Rattle.machine.specs.Places.{rule_of}
use Rattle.machine.specs.Reducing.{room_of}
use Rattle.machine.specs.Running.{rooted}
use Rattle.arithmetic.specs.declared.OutOfRange.{OutOfRange}
use Rattle.run.specs.Told.{answer_of, state_of, IsShort}
use Rattle.run.specs.Standing.{Seen, IsAt}
use Rattle.run.specs.declared.report.Found.{Found}
use Rattle.run.specs.declared.report.Report.{Report}
use Rattle.run.specs.declared.report.State.TheVariants as told
use Rattle.law.specs.declared.turn.Call.{Call}
use Rattle.law.specs.declared.turn.Reply.{Reply}
use Rattle.law.specs.declared.turn.Turn.{Turn}
use Rattle.law.specs.Turns.{Since, started, after_call, since}
use Rattle.law.specs.Replies.{IsReply, Replied}

-- A run that was played and closed: the room of its store, its rule (a tree over r readings, and the table of its
-- nodes),
-- its calls with their replies, and at the end what ask told, the free room and the lists of the handles.
pub record Play : Type 0 where
  pub room : Room
  pub r : ℕ
  pub tree : Tree
  pub nodes : List Node
  pub turns : List Turn
  pub report : Report
  pub free : ℕ
  pub lists : Lists Value

abbrev pub played : Room → ℕ → Tree → List Node → List Turn → Report → ℕ → Lists Value → Play
played room r t ns turns report left lists =
    record { room = room; r = r; tree = t; nodes = ns; turns = turns; report = report; free = left; lists = lists }

-- the readings in force at the end, and the allowed grants since start or rewind added up
abbrev pub readings_of : Play → List ℤ
readings_of p = (since (started p.r) p.turns).readings

abbrev pub granted_of : Play → ℕ
granted_of p = (since (started p.r) p.turns).granted

-- the rule with its readings put in, and the stage that the run is at
abbrev pub first_stage : Play → Term
first_stage p = start (readings_of p) p.tree

abbrev pub stage_of : Play → Term
stage_of p = stage p.report.count (first_stage p)

-- the room that the run works in: its readings lie behind every list and cost nothing
abbrev pub play_room : Play → Room
play_room p = reckoning.behind p.r p.room

-- where the run is reckoned to be, on plain lists
abbrev pub reckoned_of : Play → Reckoned
reckoned_of p = reckoned (play_room p) (readings_of p) p.tree (granted_of p)

-- State, count and free room are those reckoned. Each environment made since start or rewind is the list of a handle of
-- its own, and no other handle but 0, the readings, has a list.
pub record AsReckoned (p : Play) : Type 0 where
  pub in_state : state_of p.report.state ≡ state (reckoned_of p)
  pub counted : p.report.count ≡ (reckoned_of p).count
  pub left_free : p.free ≡ free (play_room p) (reckoned_of p).made
  pub lists_made :
      Owned (rule_of p.nodes (readings_of p)) (behind (as_values (readings_of p)) p.lists) (rooted 0 (readings_of p))
      (reckoned_of p).made

-- What holds of every run that was played.
pub record HoldsOf (p : Play) : Type 0 where
  -- its rule has a type
  pub typed : (τ : Ty) × RuleHas p.r p.tree τ
  -- each call was allowed or refused as it had to be, and each report was the one due
  pub replies : Replied (play_room p) p.r p.tree (started p.r) p.turns
  -- the length exists for all readings of the rule, these among them
  pub length : (readings : List ℤ) → length readings ≡ p.r → (n : ℕ) × Length (start readings p.tree) n
  -- the run is not stuck
  pub not_stuck : ¬ IsStuck (stage_of p)
  -- a value told is the one at the stage of its count, and belongs to every type of the rule
  pub value : (found : Found) → p.report.state ≡ told.Done found → value_answer (stage_of p) ≡ some (answer_of found)
  pub belongs : (found : Found) → p.report.state ≡ told.Done found → (τ : Ty) → RuleHas p.r p.tree τ
      → Belongs (stage_of p) τ
  -- a sum told to leave the number range is the one that is next at that stage, and leaves it
  pub range : (n : ℕ) (out : OutOfRange) → p.report.state ≡ told.Range n out → Leaves (stage_of p) n
  -- it is short of room exactly where that is reckoned, with the state and count given there, and gives its store back
  -- with the free room so reckoned
  pub reckoned : AsReckoned p
  -- otherwise its count is the lesser of the length and its allowed grants added up, and it waits exactly below the
  -- length
  pub counts : ¬ IsShort p.report.state → (n : ℕ) → Length (first_stage p) n → p.report.count ≡ min n (granted_of p)
  pub waits : ¬ IsShort p.report.state → (n : ℕ) → Length (first_stage p) n → (p.report.state ≡ told.Waiting)
      ↔ (p.report.count < n)

-- Two runs are comparable: the same accepted tree, equal readings, whatever their stores, and neither short of room.
pub record Comparable (p q : Play) : Type 0 where
  pub same_tree : p.tree ≡ q.tree
  pub same_readings : readings_of p ≡ readings_of q
  pub first_has_room : ¬ IsShort p.report.state
  pub second_has_room : ¬ IsShort q.report.state

-- the same state, count and answer
abbrev pub TellSame : Play → Play → Type 0
TellSame p q = p.report ≡ q.report

-- their allowed grants since start or rewind add up alike, or both sums reach the length
abbrev pub AddUpAlike : Play → Play → Type 0
AddUpAlike p q =
    (granted_of p ≡ granted_of q) ⊎
    ((n : ℕ) × Length (first_stage p) n × (n ≤ granted_of p) × (n ≤ granted_of q))

-- the two type answers are equal exactly when the two rules have the same types
abbrev pub TypesTold : Play → Play → Type 0
TypesTold p q =
    (w x : List ℕ) → TypeAnswer p.r p.tree w → TypeAnswer q.r q.tree x →
    (w ≡ x) ↔ ((σ : Ty) → RuleHas p.r p.tree σ ↔ RuleHas q.r q.tree σ)

-- The law, whole.
pub record Law (p q : Play) : Type 0 where
  pub types : TypesTold p q
  pub compared : Comparable p q → TellSame p q ↔ AddUpAlike p q
  pub first : HoldsOf p
  pub second : HoldsOf q

-- where a run stands at its end, and that its replies were due
pub record StandsAtEnd (p : Play) : Type 0 where
  pub typed : (τ : Ty) × RuleHas p.r p.tree τ
  pub replies : Replied (play_room p) p.r p.tree (started p.r) p.turns
  pub reckoned : AsReckoned p

abbrev pub Follows : Type 0
Follows = (p q : Play) → StandsAtEnd p → StandsAtEnd q → Law p q

-- One call: from readings and allowed grants added up to those after it, with the reply that is due.
abbrev pub Called : {S : Type 0} → (S → Lists Value) → (S → ℕ) → (S → ℕ) → (S → ℕ → ℕ) → Seen S → Seen S → Call
    → Reply → Type 0
Called lists whole room cost old new call reply =
    (t : Tree) (now : Since) →
    IsAt lists whole room cost old t now.readings now.granted →
    IsAt lists whole room cost new t (after_call now call reply).readings (after_call now call reply).granted ×
    IsReply (length now.readings)
    (reckoned (reckoning.behind (length now.readings) (room_of (whole old.store) (cost old.store))) now.readings t
    now.granted) call reply
