-- Operands that are worked out at once.
use Rattle.std.specs.Prelude.{◌≡◌, ◌≢◌, ℕ, List, Some, None, Option}
use Rattle.store.specs.Lists.{Lists}
use Rattle.values.specs.declared.Value.{Value}
use Rattle.calculus.specs.Term.{Term}
use Rattle.reckoning.specs.Environments.{Env, size}
use Rattle.reckoning.specs.Environments as plain
use Rattle.reckoning.specs.Work.{done, met}
use Rattle.reckoning.specs.Moves.{move, stuck}
use Rattle.reckoning.specs.Contexts.{Open, plugged}
use Rattle.machine.specs.Places.{Rule, At}
use Rattle.machine.specs.Handles.{StandsFor, IsListOf}

-- a value found at once is the term's
abbrev pub AtOnce : Rule → Lists Value → Term → Env → Option Value → Type 0
AtOnce rule lists t env None = Unit {0}
AtOnce rule lists t env (Some x) = (v : plain.Value) × (met t env ≡ done v) × StandsFor rule lists x v

-- the node at place p, to be met in the environment of handle h, within a work that is not stuck
pub record GoesOn (rule : Rule) (lists : Lists Value) (p h : ℕ) : Type 0 where
  pub opens : List Open
  pub term : Term
  pub env : Env
  pub at : At rule (size env) p term
  pub environment : IsListOf rule lists h env
  pub goes_on : move (plugged opens (met term env)) ≢ stuck
