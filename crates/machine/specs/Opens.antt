-- The table's operations for the open operations on plain lists.
use Rattle.std.specs.Prelude.{◌≡◌, ℕ, zero, suc, ◌+◌, ◌-◌, ◌<◌, List, [], ◌∷◌, slice_index_or, pos}
use Rattle.syntax.specs.Tree.{nodes}
use Rattle.syntax.specs.declared.node.Node.{Node}
use Rattle.syntax.specs.declared.node.Node.TheVariants as node
use Rattle.store.specs.Lists.{Lists}
use Rattle.values.specs.declared.Value.{Value}
use Rattle.values.specs.declared.Value.TheVariants.{Number}
use Rattle.record.specs.Nodes.{node_at}
use Rattle.calculus.specs.Term.{Term}
use Rattle.reckoning.specs.Environments.{Env, size}
use Rattle.reckoning.specs.Environments as plain
use Rattle.reckoning.specs.Contexts.{Open, argument, applied, bound, sum_right, sum_left, compare_right, compare_left}
use Rattle.reckoning.specs.Contexts.{condition}
use Rattle.machine.specs.declared.operation.Operation.{Operation}
use Rattle.machine.specs.declared.operation.Operation.TheVariants.{Argument, Applied, Bound, SumRight, SumLeft}
use Rattle.machine.specs.declared.operation.Operation.TheVariants.{CompareRight, CompareLeft, Condition}
use Rattle.machine.specs.Places.{Rule, At}
use Rattle.machine.specs.Handles.{StandsFor, IsListOf}

-- a node that is no leaf
abbrev pub IsOperation : Node → Type 0
IsOperation (node.Number k) = ⊥
IsOperation (node.Truth b) = ⊥
IsOperation (node.Variable d) = ⊥
IsOperation (node.Reading j) = ⊥
IsOperation (node.Function b) = ⊥
IsOperation (node.Application f a) = Unit {0}
IsOperation (node.LetIn e b) = Unit {0}
IsOperation (node.Sum l r) = Unit {0}
IsOperation (node.AtMost l r) = Unit {0}
IsOperation (node.IfElse c t e) = Unit {0}

-- a sum or a comparison
abbrev pub IsOfNumbers : Node → Type 0
IsOfNumbers (node.Number k) = ⊥
IsOfNumbers (node.Truth b) = ⊥
IsOfNumbers (node.Variable d) = ⊥
IsOfNumbers (node.Reading j) = ⊥
IsOfNumbers (node.Function b) = ⊥
IsOfNumbers (node.Application f a) = ⊥
IsOfNumbers (node.LetIn e b) = ⊥
IsOfNumbers (node.Sum l r) = Unit {0}
IsOfNumbers (node.AtMost l r) = Unit {0}
IsOfNumbers (node.IfElse c t e) = ⊥

-- how many nodes the left operand of a node has, by the places of its operands
abbrev pub span : Node → ℕ
span (node.Number k) = 0
span (node.Truth b) = 0
span (node.Variable d) = 0
span (node.Reading j) = 0
span (node.Function b) = 0
span (node.Application f a) = a - f
span (node.LetIn e b) = 0
span (node.Sum l r) = r - l
span (node.AtMost l r) = r - l
span (node.IfElse c t e) = 0

-- how many nodes of the left operand wait in an operation, until its right operand is found
abbrev pub weight : List Node → Operation → ℕ
weight ns (Argument n p h) = span (node_at ns n)
weight ns (Applied n v) = 0
weight ns (Bound n p h) = 0
weight ns (SumRight n p h) = span (node_at ns n)
weight ns (SumLeft n v) = 0
weight ns (CompareRight n p h) = span (node_at ns n)
weight ns (CompareLeft n v) = 0
weight ns (Condition n p q h) = 0

-- a left operand that waits at place p, of so many nodes, in the environment of handle h
pub record Waits (rule : Rule) (lists : Lists Value) (p h wide : ℕ) (t : Term) (env : Env) : Type 0 where
  pub at : At rule (size env) p t
  pub environment : IsListOf rule lists h env
  pub sized : wide ≡ nodes at.tree

abbrev pub OpenFor : Rule → Lists Value → Operation → Open → Type 0
OpenFor rule lists (Argument n p h) o = (t : Term) × (env : Env) × (o ≡ argument n t env)
    × Waits rule lists p h (span (node_at rule.nodes n)) t env
OpenFor rule lists (Applied n x) o = (v : plain.Value) × (o ≡ applied n v) × StandsFor rule lists x v
OpenFor rule lists (Bound n p h) o = (t : Term) × (env : Env) × (o ≡ bound n t env) × At rule (suc (size env)) p t
    × IsListOf rule lists h env
OpenFor rule lists (SumRight n p h) o = (t : Term) × (env : Env) × (o ≡ sum_right n t env)
    × Waits rule lists p h (span (node_at rule.nodes n)) t env
OpenFor rule lists (SumLeft n x) o = (v : plain.Value) × (o ≡ sum_left n v) × StandsFor rule lists x v
OpenFor rule lists (CompareRight n p h) o = (t : Term) × (env : Env) × (o ≡ compare_right n t env)
    × Waits rule lists p h (span (node_at rule.nodes n)) t env
OpenFor rule lists (CompareLeft n x) o = (v : plain.Value) × (o ≡ compare_left n v) × StandsFor rule lists x v
OpenFor rule lists (Condition n p q h) o = (t e : Term) × (env : Env) × (o ≡ condition n t e env)
    × At rule (size env) p t × At rule (size env) q e × IsListOf rule lists h env

-- the operation at a place of the table
abbrev pub op_at : List Operation → ℕ → Operation
op_at ops i = slice_index_or ops i (SumLeft 0 (Number (pos 0)))

-- the first d operations of the table are the open operations, the innermost last in the table and first in the list
abbrev pub Stacked : Rule → Lists Value → List Operation → ℕ → List Open → Type 0
Stacked rule lists ops zero [] = Unit {0}
Stacked rule lists ops zero (o ∷ os) = ⊥
Stacked rule lists ops (suc d) [] = ⊥
Stacked rule lists ops (suc d) (o ∷ os) = OpenFor rule lists (op_at ops d) o × Stacked rule lists ops d os

-- how many nodes of left operands wait in the first d operations
abbrev pub weighed : List Node → List Operation → ℕ → ℕ
weighed ns ops zero = 0
weighed ns ops (suc d) = weight ns (op_at ops d) + weighed ns ops d

-- an operation was written at place d, and those below stay
pub record Topped (ops ops' : List Operation) (d : ℕ) (op : Operation) : Type 0 where
  pub top : op_at ops' d ≡ op
  pub below : (i : ℕ) → i < d → op_at ops' i ≡ op_at ops i

-- an operation that is reduced with the value that is found for its operand
abbrev pub IsReady : Operation → Type 0
IsReady (Argument n p h) = ⊥
IsReady (Applied n v) = Unit {0}
IsReady (Bound n p h) = Unit {0}
IsReady (SumRight n p h) = ⊥
IsReady (SumLeft n v) = Unit {0}
IsReady (CompareRight n p h) = ⊥
IsReady (CompareLeft n v) = Unit {0}
IsReady (Condition n p q h) = Unit {0}
