-- How many nodes are still to be met before a reduction.
use Rattle.std.specs.Prelude.{ℕ, zero, suc, ◌+◌, ◌-◌, ◌*◌, List, length}
use Rattle.syntax.specs.declared.node.Node.{Node}
use Rattle.syntax.specs.declared.node.Node.TheVariants as node
use Rattle.record.specs.Nodes.{node_at}
use Rattle.machine.specs.declared.operations.Operations.{Operations}
use Rattle.machine.specs.declared.next.Next.{Next}
use Rattle.machine.specs.declared.next.Next.TheVariants as next
use Rattle.machine.specs.Opens.{weighed}

-- the nodes before the last child of a node at place p, and those of that child
abbrev pub by_last : (ℕ → ℕ) → ℕ → Node → ℕ
by_last of_child p (node.Number k) = 1
by_last of_child p (node.Truth b) = 1
by_last of_child p (node.Variable d) = 1
by_last of_child p (node.Reading j) = 1
by_last of_child p (node.Function b) = 1 + of_child b
by_last of_child p (node.Application f a) = (a - p) + of_child a
by_last of_child p (node.LetIn e b) = (b - p) + of_child b
by_last of_child p (node.Sum l r) = (r - p) + of_child r
by_last of_child p (node.AtMost l r) = (r - p) + of_child r
by_last of_child p (node.IfElse c t e) = (e - p) + of_child e

-- how many nodes a tree has that stands at a place, if at most n
abbrev pub extent : ℕ → List Node → ℕ → ℕ
extent zero ns p = 0
extent (suc n) ns p = by_last (λ q. extent n ns q) p (node_at ns p)

-- twice the nodes of the left operands that wait and of the tree at place p
abbrev pub to_meet : List Node → Operations → ℕ → ℕ
to_meet ns table p = 2 * (weighed ns table.ops table.depth + extent (length ns) ns p)

abbrev pub to_go : List Node → Operations → Next → ℕ
to_go ns table (next.Value x) = suc (2 * weighed ns table.ops table.depth)
to_go ns table (next.Node m) = to_meet ns table m.place
