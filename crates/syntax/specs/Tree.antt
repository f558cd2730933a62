-- The tree of a rule.
use Rattle.std.specs.Prelude.{Bool, ℤ, ℕ, ◌+◌}

-- A variable is told by its distance: how many binders stand between it and its own. A function and
-- a let bind in their body only. Under b binders, distance b + j means reading j.
pub data Tree : Type 0 where
  number : ℤ → Tree
  truth : Bool → Tree
  variable : ℕ → Tree
  -- body
  function : Tree → Tree
  -- function, argument
  application : Tree → Tree → Tree
  -- bound, body
  let_in : Tree → Tree → Tree
  -- left, right
  sum : Tree → Tree → Tree
  at_most : Tree → Tree → Tree
  -- condition, then, else
  if_else : Tree → Tree → Tree → Tree

-- how many nodes a tree has; they are numbered from 0, a node before its children, these from left to right
abbrev pub nodes : Tree → ℕ
nodes (number k) = 1
nodes (truth b) = 1
nodes (variable d) = 1
nodes (function b) = 1 + nodes b
nodes (application f a) = 1 + (nodes f + nodes a)
nodes (let_in e b) = 1 + (nodes e + nodes b)
nodes (sum l r) = 1 + (nodes l + nodes r)
nodes (at_most l r) = 1 + (nodes l + nodes r)
nodes (if_else c t e) = 1 + (nodes c + (nodes t + nodes e))
