-- The table of nodes, and the trees that it holds.
use Rattle.std.specs.Prelude.{List, [], ◌∷◌, ◌++◌, ◌≡◌, pos, length, slice_index_or, ℕ, min, ◌+◌, ◌≤◌, ◌<◌}
use Rattle.arrayvec.specs.ArrayVec.{array_vec_len}
use Rattle.syntax.specs.Tree.{Tree, nodes, number, truth, variable, function, application, let_in, sum, at_most}
use Rattle.syntax.specs.Tree.{if_else}
use Rattle.syntax.specs.Record.{encode}
use Rattle.syntax.specs.Kinds.{kind_of, operands_of}
use Rattle.syntax.specs.declared.node.Node.{Node}
use Rattle.syntax.specs.declared.node.Node.TheVariants.{Number, Truth, Variable, Function, Application, LetIn, Sum}
use Rattle.syntax.specs.declared.node.Node.TheVariants.{AtMost, IfElse}
use Rattle.nodes.specs.declared.table.Table.{Table}

-- how many bytes a node takes in a record, its children apart
abbrev pub width : Node → ℕ
width n = 1 + operands_of (kind_of n)

abbrev pub at : List Node → ℕ → Node
at ns i = slice_index_or ns i (Number (pos 0))

-- the node at a place is the root of this tree, every child at a lower place
abbrev pub Holds : List Node → ℕ → Tree → Type 0
Holds ns i (number k) = at ns i ≡ Number k
Holds ns i (truth b) = at ns i ≡ Truth b
Holds ns i (variable d) = at ns i ≡ Variable d
Holds ns i (function t) = (a : ℕ) × (a < i) × (at ns i ≡ Function a) × Holds ns a t
Holds ns i (application t u) = (a b : ℕ) × (a < i) × (b < i) × (at ns i ≡ Application a b) × Holds ns a t × Holds ns b u
Holds ns i (let_in t u) = (a b : ℕ) × (a < i) × (b < i) × (at ns i ≡ LetIn a b) × Holds ns a t × Holds ns b u
Holds ns i (sum t u) = (a b : ℕ) × (a < i) × (b < i) × (at ns i ≡ Sum a b) × Holds ns a t × Holds ns b u
Holds ns i (at_most t u) = (a b : ℕ) × (a < i) × (b < i) × (at ns i ≡ AtMost a b) × Holds ns a t × Holds ns b u
Holds ns i (if_else t u v) = (a b c : ℕ) × (a < i) × (b < i) × (c < i) × (at ns i ≡ IfElse a b c) × Holds ns a t
    × Holds ns b u × Holds ns c v

-- how many nodes a table holds, one too many at most
abbrev pub count : Table → ℕ
count table = array_vec_len table.nodes

-- a node was put behind the others and its bytes were added; a table of 513 nodes stays as it is
pub record Pushed (before after : Table) (n : Node) (place : ℕ) : Type 0 where
  pub behind : place ≡ count before
  pub counted : count after ≡ min (count before + 1) 513
  pub stored : count before < 513 → after.nodes.items ≡ before.nodes.items ++ n ∷ []
  pub wider : count before < 513 → after.bytes ≡ before.bytes + width n
  pub full : count before ≡ 513 → (after.nodes.items ≡ before.nodes.items) × (after.bytes ≡ before.bytes)

-- after a tree was read into a table, with its root at a place
pub record Grown (before after : Table) (t : Tree) (root : ℕ) : Type 0 where
  pub counted : count after ≡ min (count before + nodes t) 513
  pub wider : count after ≤ 512 → after.bytes ≡ before.bytes + length (encode t)
  pub inside : count after ≤ 512 → root < count after
  pub holds : count after ≤ 512 → Holds after.nodes.items root t
  pub kept : count after ≤ 512 → (i : ℕ) → i < count before → at after.nodes.items i ≡ at before.nodes.items i

-- the node of a tree of one node
abbrev pub One : Node → Tree → Type 0
One n (number k) = n ≡ Number k
One n (truth b) = n ≡ Truth b
One n (variable d) = n ≡ Variable d
One n (function a) = ⊥
One n (application a b) = ⊥
One n (let_in a b) = ⊥
One n (sum a b) = ⊥
One n (at_most a b) = ⊥
One n (if_else a b c) = ⊥
