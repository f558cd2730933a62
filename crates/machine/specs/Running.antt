-- Where a run stands.
use Rattle.std.specs.Prelude.{◌≡◌, ◌≢◌, ℕ, ◌≤◌, ℤ, List, length, None, Result, Ok, Err}
use Rattle.std.proofs.Math.Option.{none}
use Rattle.syntax.specs.Tree.{Tree, nodes}
use Rattle.record.specs.Nodes.{Holds}
use Rattle.store.specs.Lists.{Lists}
use Rattle.values.specs.declared.Value.{Value}
use Rattle.values.specs.declared.Value.TheVariants as value
use Rattle.calculus.specs.Range.{sum_of}
use Rattle.arithmetic.specs.declared.OutOfRange.{OutOfRange}
use Rattle.arithmetic.specs.Sums.{as_result}
use Rattle.calculus.specs.Length.{Answer}
use Rattle.reckoning.specs.Environments.{base}
use Rattle.reckoning.specs.Moves.{stuck, move}
use Rattle.reckoning.specs.Room.{Room, free}
use Rattle.reckoning.specs.Reckoning.{Reckoned, shortage, ahead, state, granted, steps}
use Rattle.reckoning.specs.Reckoning as plain
use Rattle.machine.specs.declared.steps.Machine.{Machine}
use Rattle.machine.specs.declared.steps.State.{State}
use Rattle.machine.specs.declared.steps.State.TheVariants.{Waiting, Done, Range, NoStore, NoStack}
use Rattle.machine.specs.Handles.{IsListOf, Root, Owned}
use Rattle.machine.specs.declared.operations.Operations.{Operations}
use Rattle.machine.specs.declared.next.Next.{Next}
use Rattle.machine.specs.Standing.{Readied, Follows}
use Rattle.machine.specs.Places.{Rule}

abbrev pub answer_of : Value → Answer
answer_of (value.Number k) = Answer.number k
answer_of (value.Truth b) = Answer.truth b
answer_of (value.Function n h) = Answer.function n

abbrev pub state_of : State → plain.State
state_of Waiting = plain.waiting
state_of (Done x) = plain.over (answer_of x)
state_of (Range n out) = plain.over (Answer.range n)
state_of (NoStore n) = plain.no_store n
state_of (NoStack n) = plain.no_stack n

-- what is told of a sum that is next, at node n
abbrev pub tells : ℕ → Result ℤ OutOfRange → State
tells n (Ok k) = Waiting
tells n (Err out) = Range n out

-- the same, with the values of its operands
abbrev pub sum_ahead : ℕ → Value → Value → State
sum_ahead n (value.Number j) (value.Number i) = tells n (as_result (sum_of i j))
sum_ahead n (value.Number j) (value.Truth c) = Waiting
sum_ahead n (value.Number j) (value.Function m h) = Waiting
sum_ahead n (value.Truth b) x = Waiting
sum_ahead n (value.Function m h) x = Waiting

-- The run stands where s is: any s, however it came there.
pub record StandsAt (rule : Rule) (lists : Lists Value) (room : Room) (left : ℕ) (root : Root) (run : Machine)
    (s : Reckoned) : Type 0 where
  pub in_state : state_of run.state ≡ state s
  pub counted : run.count ≡ s.count
  pub left_free : left ≡ free room s.made
  pub lists_made : Owned rule lists root s.made
  pub ready : run.state ≡ Waiting → Readied rule lists run.table run.focus s.work

-- nothing is ever stuck, from s on
abbrev pub NeverStuck : Room → Reckoned → Type 0
NeverStuck room s = (n : ℕ) → move (steps room n s).work ≢ stuck

-- nothing is stuck within so many granted steps
abbrev pub NotStuckFor : Room → ℕ → Reckoned → Type 0
NotStuckFor room k s = (n : ℕ) → n ≤ k → move (steps room n s).work ≢ stuck

-- The table holds this tree, the list of the handle is these readings, no other handle has a list, and all room is
-- free.
pub record Begins (rule : Rule) (lists : Lists Value) (whole left : ℕ) (h : ℕ) (t : Tree) (readings : List ℤ) : Type 0
  where
    pub holds : Holds rule.nodes 0 0 t
    pub inside : nodes t ≤ length rule.nodes
    pub as_many : rule.readings ≡ length readings
    pub environment : IsListOf rule lists h (base readings)
    pub alone : (k : ℕ) → (k ≢ h) → lists k ≡ None
    pub unspent : left ≡ whole

-- these readings, the list of this handle
abbrev pub rooted : ℕ → List ℤ → Root
rooted h readings = record { handle = h; environment = base readings }

-- The run goes on with what is next, where s is, and was not refused room.
pub record OnTheWay (rule : Rule) (lists : Lists Value) (room : Room) (left : ℕ) (root : Root) (table : Operations)
    (next : Next) (s : Reckoned) : Type 0 where
  pub left_free : left ≡ free room s.made
  pub lists_made : Owned rule lists root s.made
  pub not_refused : s.refused ≡ none
  pub follows : Follows rule lists table next s.work
