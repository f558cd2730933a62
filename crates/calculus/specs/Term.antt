-- The term of a rule: its tree, with node numbers that copies keep.
use Rattle.std.specs.Prelude.{Bool, ℤ, ℕ, ◌+◌}
use Rattle.syntax.specs.Tree.{Tree, nodes}

--   t ::= k | true | false | x
--       | fun x -> t | t t | let x = t in t | t + t | t <= t | if t then t else t
--
-- A variable is told by its distance. Functions and operations carry the number of their node; a report
-- never names the node of a number, a truth or a variable, so these carry none.
pub data Term : Type 0 where
  number : ℤ → Term
  truth : Bool → Term
  variable : ℕ → Term
  function : ℕ → Term → Term
  application : ℕ → Term → Term → Term
  let_in : ℕ → Term → Term → Term
  sum : ℕ → Term → Term → Term
  at_most : ℕ → Term → Term → Term
  if_else : ℕ → Term → Term → Term → Term

-- a tree's term, its nodes numbered from i on: a node before its children, these from left to right
abbrev pub numbered : ℕ → Tree → Term
numbered i (Tree.number k) = number k
numbered i (Tree.truth b) = truth b
numbered i (Tree.variable d) = variable d
numbered i (Tree.function b) = function i (numbered (i + 1) b)
numbered i (Tree.application f a) = application i (numbered (i + 1) f) (numbered (i + (1 + nodes f)) a)
numbered i (Tree.let_in e b) = let_in i (numbered (i + 1) e) (numbered (i + (1 + nodes e)) b)
numbered i (Tree.sum l r) = sum i (numbered (i + 1) l) (numbered (i + (1 + nodes l)) r)
numbered i (Tree.at_most l r) = at_most i (numbered (i + 1) l) (numbered (i + (1 + nodes l)) r)
numbered i (Tree.if_else c t e) =
    if_else i (numbered (i + 1) c) (numbered (i + (1 + nodes c)) t) (numbered (i + (1 + (nodes c + nodes t))) e)
