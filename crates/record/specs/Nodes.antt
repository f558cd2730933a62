-- The table of nodes, and the tree that it holds.
use Rattle.std.specs.Prelude.{◌≡◌, ℕ, ◌+◌, ◌-◌, List, pos, slice_index_or, cond, nat_lt}
use Rattle.syntax.specs.Tree.{Tree, nodes, number, truth, variable, function, application, let_in, sum, at_most}
use Rattle.syntax.specs.Tree.{if_else}
use Rattle.syntax.specs.declared.node.Node.{Node}
use Rattle.syntax.specs.declared.node.Node.TheVariants.{Number, Truth, Variable, Reading, Function, Application}
use Rattle.syntax.specs.declared.node.Node.TheVariants.{LetIn, Sum, AtMost, IfElse}

abbrev pub node_at : List Node → ℕ → Node
node_at ns i = slice_index_or ns i (Number (pos 0))

-- the node of a variable at distance d under b binders: it is one of these, or reading d - b
abbrev pub named : ℕ → ℕ → Node
named b d = cond (nat_lt d b) (Variable d) (Reading (d - b))

-- The nodes of a tree under b binders stand from place i on, in prefix order: a node, then its children from left to
-- right. A node names the places of its children, and a variable tells whether it is a binder or a reading.
abbrev pub Holds : List Node → ℕ → ℕ → Tree → Type 0
Holds ns b i (number k) = node_at ns i ≡ Number k
Holds ns b i (truth v) = node_at ns i ≡ Truth v
Holds ns b i (variable d) = node_at ns i ≡ named b d
Holds ns b i (function t) = (node_at ns i ≡ Function (i + 1)) × Holds ns (b + 1) (i + 1) t
Holds ns b i (application t u) = (node_at ns i ≡ Application (i + 1) (i + (1 + nodes t))) × Holds ns b (i + 1) t
    × Holds ns b (i + (1 + nodes t)) u
Holds ns b i (let_in t u) = (node_at ns i ≡ LetIn (i + 1) (i + (1 + nodes t))) × Holds ns b (i + 1) t
    × Holds ns (b + 1) (i + (1 + nodes t)) u
Holds ns b i (sum t u) = (node_at ns i ≡ Sum (i + 1) (i + (1 + nodes t))) × Holds ns b (i + 1) t
    × Holds ns b (i + (1 + nodes t)) u
Holds ns b i (at_most t u) = (node_at ns i ≡ AtMost (i + 1) (i + (1 + nodes t))) × Holds ns b (i + 1) t
    × Holds ns b (i + (1 + nodes t)) u
Holds ns b i (if_else t u v) =
    (node_at ns i ≡ IfElse (i + 1) (i + (1 + nodes t)) (i + (1 + (nodes t + nodes u)))) ×
    Holds ns b (i + 1) t ×
    Holds ns b (i + (1 + nodes t)) u ×
    Holds ns b (i + (1 + (nodes t + nodes u))) v
