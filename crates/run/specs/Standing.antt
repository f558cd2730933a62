-- Where a run stands.
use Rattle.std.specs.Prelude.{◌≡◌, ℕ, ℤ, List, length}
use Rattle.syntax.specs.Tree.{Tree}
use Rattle.syntax.specs.declared.node.Node.{Node}
use Rattle.store.specs.Lists.{Lists}
use Rattle.values.specs.declared.Value.{Value}
use Rattle.readings.specs.Behind.{as_values, behind}
use Rattle.record.specs.declared.received.Received.{Received}
use Rattle.calculus.specs.Types.{Ty, RuleHas}
use Rattle.typing.specs.Accepting.{IsRule}
use Rattle.reckoning.specs.Room.{Room}
use Rattle.reckoning.specs.Room as reckoning
use Rattle.reckoning.specs.Reckoning.{reckoned}
use Rattle.machine.specs.declared.steps.Machine.{Machine}
use Rattle.machine.specs.Places.{rule_of}
use Rattle.machine.specs.Reducing.{room_of}
use Rattle.machine.specs.Running.{StandsAt, rooted}
use Rattle.run.specs.declared.report.Report.{Report}
use Rattle.run.specs.Told.{told}

-- what clauses see of a run
pub record Seen (S : Type 0) : Type 0 where
  pub rule : Received
  pub readings : List ℤ
  -- the store that lies below the readings
  pub store : S
  pub machine : Machine

abbrev pub nodes_of : {S : Type 0} → Seen S → List Node
nodes_of run = run.rule.nodes.items

-- what ask tells
abbrev pub reported : {S : Type 0} → Seen S → Report
reported run = record { count = run.machine.count; state = told run.machine.state }

-- The run of this tree on these readings, whose allowed grants since start or rewind add up to g: it stands where that
-- is reckoned, in the room of its store with the readings behind every list.
pub record IsAt {S : Type 0} (lists : S → Lists Value) (whole room : S → ℕ) (cost : S → ℕ → ℕ) (run : Seen S)
    (t : Tree) (readings : List ℤ) (g : ℕ) : Type 0 where
  pub rule : IsRule run.rule (length readings) t
  pub laid : run.readings ≡ readings
  pub stands :
      (let r = reckoning.behind (length readings) (room_of (whole run.store) (cost run.store)) in
      StandsAt (rule_of (nodes_of run) readings) (behind (as_values readings) (lists run.store)) r (room run.store)
      (rooted 0 readings) run.machine
      (reckoned r readings t g))

-- at all times the rule is one tree that has a type, and the run is somewhere on its way
pub record Keeps {S : Type 0} (lists : S → Lists Value) (whole room : S → ℕ) (cost : S → ℕ → ℕ) (run : Seen S) : Type
    0 where
  pub tree : Tree
  pub type : Ty
  pub granted : ℕ
  pub typed : RuleHas (length run.readings) tree type
  pub at : IsAt lists whole room cost run tree run.readings granted
