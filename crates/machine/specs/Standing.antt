-- What a table of operations and a focus stand for: the whole work.
use Rattle.std.specs.Prelude.{◌≡◌, ℕ, ◌-◌, ◌<◌, List}
use Rattle.store.specs.Lists.{Lists}
use Rattle.values.specs.declared.Value.{Value}
use Rattle.calculus.specs.Term.{Term}
use Rattle.reckoning.specs.Environments.{Env, size}
use Rattle.reckoning.specs.Environments as plain
use Rattle.reckoning.specs.Work.{Work, done, met}
use Rattle.reckoning.specs.Contexts.{Open, inside, plugged}
use Rattle.machine.specs.declared.operation.Operation.{Operation}
use Rattle.machine.specs.declared.operations.Operations.{Operations}
use Rattle.machine.specs.declared.next.Next.{Next}
use Rattle.machine.specs.declared.next.Next.TheVariants as next
use Rattle.machine.specs.Places.{Rule, At}
use Rattle.machine.specs.Handles.{StandsFor, IsListOf}
use Rattle.machine.specs.Opens.{OpenFor, Stacked, IsReady, op_at}

-- The whole work w, its focus the node at place p, to be met in the environment of handle h.
pub record Meets (rule : Rule) (lists : Lists Value) (table : Operations) (p h : ℕ) (w : Work) : Type 0 where
  pub opens : List Open
  pub term : Term
  pub env : Env
  pub stacked : Stacked rule lists table.ops table.depth opens
  pub at : At rule (size env) p term
  pub environment : IsListOf rule lists h env
  pub whole : plugged opens (met term env) ≡ w

-- The whole work w, its focus the value x, which was found.
pub record HasFound (rule : Rule) (lists : Lists Value) (table : Operations) (x : Value) (w : Work) : Type 0 where
  pub opens : List Open
  pub value : plain.Value
  pub stacked : Stacked rule lists table.ops table.depth opens
  pub stands : StandsFor rule lists x value
  pub whole : plugged opens (done value) ≡ w

-- a value is found, and the innermost operation is ready to be reduced with it
pub record Readied (rule : Rule) (lists : Lists Value) (table : Operations) (x : Value) (w : Work) : Type 0 where
  pub some_open : 0 < table.depth
  pub ready : IsReady (op_at table.ops (table.depth - 1))
  pub found : HasFound rule lists table x w

-- The whole work w, with an operation in hand within the first d of the table, its focus the value x, which was found.
pub record InHand (rule : Rule) (lists : Lists Value) (ops : List Operation) (d : ℕ) (op : Operation) (x : Value)
    (w : Work) : Type 0 where
  pub first : Open
  pub rest : List Open
  pub value : plain.Value
  pub open_for : OpenFor rule lists op first
  pub stacked : Stacked rule lists ops d rest
  pub stands : StandsFor rule lists x value
  pub whole : plugged rest (inside first (done value)) ≡ w

-- The same, its focus the node at place p, to be met in the environment of handle h.
pub record Opening (rule : Rule) (lists : Lists Value) (ops : List Operation) (d : ℕ) (op : Operation) (p h : ℕ)
    (w : Work) : Type 0 where
  pub first : Open
  pub rest : List Open
  pub term : Term
  pub env : Env
  pub open_for : OpenFor rule lists op first
  pub stacked : Stacked rule lists ops d rest
  pub at : At rule (size env) p term
  pub environment : IsListOf rule lists h env
  pub whole : plugged rest (inside first (met term env)) ≡ w

-- a run goes on with a value that was found, or with a node that is to be met
abbrev pub Follows : Rule → Lists Value → Operations → Next → Work → Type 0
Follows rule lists table (next.Value x) w = HasFound rule lists table x w
Follows rule lists table (next.Node m) w = Meets rule lists table m.place m.environment w
