-- Which entries of the table a tree rests on.
use Rattle.std.proofs.Common.{◌≡◌, ℕ, ◌+◌, ◌<◌, ◌≤◌, true, false, List, length, ◌∙◌, arith}
use Rattle.syntax.specs.Tree.{Tree, nodes, number, truth, variable, function, application, let_in, sum, at_most}
use Rattle.syntax.specs.Tree.{if_else}
use Rattle.syntax.specs.Record.{encode}
use Rattle.syntax.specs.declared.node.Node.{Node}
use Rattle.record.specs.Nodes.{node_at, Holds}

-- a tree has a node
pub some_node : (t : Tree) → 1 ≤ nodes t
some_node (number k) = omega arith
some_node (truth b) = omega arith
some_node (variable d) = omega arith
some_node (function t) = omega arith
some_node (application t u) = omega arith
some_node (let_in t u) = omega arith
some_node (sum t u) = omega arith
some_node (at_most t u) = omega arith
some_node (if_else t u v) = omega arith

abbrev pub Same : List Node → List Node → ℕ → ℕ → Type 0
Same ns ms i n = (j : ℕ) → i ≤ j → j < i + n → node_at ms j ≡ node_at ns j

-- a tree is held by every table with the same entries at its places
pub holds_same : (ns ms : List Node) (b i : ℕ) (t : Tree) → Same ns ms i (nodes t) → Holds ns b i t → Holds ms b i t
holds_same ns ms b i (number k) same h = same i (omega arith) (omega arith) ∙ h
holds_same ns ms b i (truth v) same h = same i (omega arith) (omega arith) ∙ h
holds_same ns ms b i (variable d) same h = same i (omega arith) (omega arith) ∙ h
holds_same ns ms b i (function t) same h = (
  same i (omega arith) (omega arith) ∙ h.0,
  holds_same ns ms (b + 1) (i + 1) t (λ j l m. same j (omega arith)
      (omega arith)) h.1,
)
holds_same ns ms b i (application t u) same h = (
  same i (omega arith) (omega arith) ∙ h.0,
  holds_same ns ms b (i + 1) t (λ j l m. same j (omega arith)
      (omega arith)) h.1,
  holds_same ns ms b (i + (1 + nodes t)) u (λ j l m. same j (omega arith) (omega arith)) h.2,
)
holds_same ns ms b i (let_in t u) same h = (
  same i (omega arith) (omega arith) ∙ h.0,
  holds_same ns ms b (i + 1) t (λ j l m. same j (omega arith)
      (omega arith)) h.1,
  holds_same ns ms (b + 1) (i + (1 + nodes t)) u (λ j l m. same j (omega arith)
      (omega arith)) h.2,
)
holds_same ns ms b i (sum t u) same h = (
  same i (omega arith) (omega arith) ∙ h.0,
  holds_same ns ms b (i + 1) t (λ j l m. same j (omega arith)
      (omega arith)) h.1,
  holds_same ns ms b (i + (1 + nodes t)) u (λ j l m. same j (omega arith) (omega arith)) h.2,
)
holds_same ns ms b i (at_most t u) same h = (
  same i (omega arith) (omega arith) ∙ h.0,
  holds_same ns ms b (i + 1) t (λ j l m. same j (omega arith)
      (omega arith)) h.1,
  holds_same ns ms b (i + (1 + nodes t)) u (λ j l m. same j (omega arith) (omega arith)) h.2,
)
holds_same ns ms b i (if_else t u v) same h = (
  same i (omega arith) (omega arith) ∙ h.0,
  holds_same ns ms b (i + 1) t (λ j l m. same j (omega arith) (omega arith)) h.1,
  holds_same ns ms b (i + (1 + nodes t)) u (λ j l m. same j (omega arith) (omega arith)) h.2,
  holds_same ns ms b (i + (1 + (nodes t + nodes u))) v (λ j l m. same j (omega arith) (omega arith)) h.3,
)

-- and a byte
pub some_byte : (t : Tree) → 1 ≤ length (encode t)
some_byte (number k) = omega arith
some_byte (truth false) = omega arith
some_byte (truth true) = omega arith
some_byte (variable d) = omega arith
some_byte (function t) = omega arith
some_byte (application t u) = omega arith
some_byte (let_in t u) = omega arith
some_byte (sum t u) = omega arith
some_byte (at_most t u) = omega arith
some_byte (if_else t u v) = omega arith
