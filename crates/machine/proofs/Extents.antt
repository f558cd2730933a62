-- The count of the nodes to be met is that of the trees.
use Rattle.std.proofs.Common.{◌≡◌, ℕ, zero, suc, ◌+◌, ◌-◌, ◌*◌, ◌<◌, ◌≤◌, List, [], ◌∷◌, length, refl, sym, ap, ◌∙◌}
use Rattle.std.proofs.Common.{arith, Bool, true, false, cond, nat_lt}
use Rattle.std.proofs.Math.Nat.{mul-le-mul_right}
use Rattle.syntax.specs.Tree.{Tree, nodes}
use Rattle.syntax.specs.Tree as tree
use Rattle.syntax.specs.declared.node.Node.{Node}
use Rattle.store.specs.Lists.{Lists}
use Rattle.values.specs.declared.Value.{Value}
use Rattle.record.specs.Nodes.{node_at, Holds, named}
use Rattle.syntax.specs.declared.node.Node.TheVariants.{Variable, Reading}
use Rattle.reckoning.specs.Work.{Work}
use Rattle.reckoning.specs.Contexts.{Open}
use Rattle.machine.specs.declared.operation.Operation.{Operation}
use Rattle.machine.specs.declared.operation.Operation.TheVariants.{Argument, Applied, Bound, SumRight, SumLeft}
use Rattle.machine.specs.declared.operation.Operation.TheVariants.{CompareRight, CompareLeft, Condition}
use Rattle.machine.specs.declared.operations.Operations.{Operations}
use Rattle.machine.specs.declared.next.Next.{Next}
use Rattle.machine.specs.declared.next.Next.TheVariants as next
use Rattle.machine.specs.Places.{Rule, At}
use Rattle.machine.specs.Opens.{OpenFor, Waits, op_at, span, weight, weighed, Stacked, IsReady, Topped}
use Rattle.machine.specs.Standing.{Follows}
use Rattle.machine.specs.Extents.{by_last, extent, to_meet, to_go}
use Rattle.machine.proofs.Placing.{some_nodes}
use Rattle.machine.proofs.Stacking.{weighed_more}
use Rattle.machine.proofs.Settling.{ready_weight}

module _ (rule : Rule) where
  of_node : (n p : ℕ) (m : Node) → node_at rule.nodes p ≡ m → extent (suc n) rule.nodes p ≡ by_last
      (λ q. extent n rule.nodes q) p m
  of_node n p m e = ap (λ x. by_last (λ q. extent n rule.nodes q) p x) e

  one_node : (n p b d : ℕ) → by_last (λ q. extent n rule.nodes q) p (named b d) ≡ 1
  one_node n p b d = by (nat_lt d b)
    where
      by : (inner : Bool) → by_last (λ q. extent n rule.nodes q) p (cond inner (Variable d) (Reading (d - b))) ≡ 1
      by true = refl
      by false = refl

  tree_extent : (t : Tree) (n b p : ℕ) → Holds rule.nodes b p t → nodes t ≤ n → extent n rule.nodes p ≡ nodes t
  tree_extent t zero b p h few = let some = some_nodes t in absurd (omega arith)
  tree_extent (tree.number k) (suc n) b p h few = of_node n p _ h
  tree_extent (tree.truth v) (suc n) b p h few = of_node n p _ h
  tree_extent (tree.variable d) (suc n) b p h few = of_node n p _ h ∙ one_node n p b d
  tree_extent (tree.function t) (suc n) b p h few =
      let e = of_node n p _ h.0 in
      let i = tree_extent t n (b + 1) (p + 1) h.1 (omega arith) in
      omega arith
  tree_extent (tree.application t u) (suc n) b p h few =
      let e = of_node n p _ h.0 in
      let i = tree_extent u n b (p + (1 + nodes t)) h.2 (omega arith) in
      omega arith
  tree_extent (tree.let_in t u) (suc n) b p h few =
      let e = of_node n p _ h.0 in
      let i = tree_extent u n (b + 1) (p + (1 + nodes t)) h.2 (omega arith) in
      omega arith
  tree_extent (tree.sum t u) (suc n) b p h few =
      let e = of_node n p _ h.0 in
      let i = tree_extent u n b (p + (1 + nodes t)) h.2 (omega arith) in
      omega arith
  tree_extent (tree.at_most t u) (suc n) b p h few =
      let e = of_node n p _ h.0 in
      let i = tree_extent u n b (p + (1 + nodes t)) h.2 (omega arith) in
      omega arith
  tree_extent (tree.if_else t u v) (suc n) b p h few =
      let e = of_node n p _ h.0 in
      let i = tree_extent v n b (p + (1 + (nodes t + nodes u))) h.3 (omega arith) in
      omega arith

  pub at_extent : (names p : ℕ) (t : _) (a : At rule names p t) → extent (length rule.nodes) rule.nodes p ≡ nodes a.tree
  at_extent names p t a = let i = a.inside in tree_extent a.tree (length rule.nodes) a.binders p a.holds (omega arith)

  -- fewer nodes are to be met: within a tree, and with an operation opened around it
  module _ (table : Operations) (names more p q : ℕ) (t u : _) (a : At rule names p t) (b : At rule more q u) where
    pub shorter : nodes b.tree < nodes a.tree → to_meet rule.nodes table q < to_meet rule.nodes table p
    shorter less =
        let e = at_extent names p t a in
        let f = at_extent more q u b in
        omega arith

    pub shorter_open : (table' : Operations) (op : Operation) → Topped table.ops table'.ops table.depth op
        → table'.depth ≡ table.depth + 1 →
        weight rule.nodes op + nodes b.tree < nodes a.tree → to_meet rule.nodes table' q < to_meet rule.nodes table p
    shorter_open table' op topped deep less =
        let e = at_extent names p t a in
        let f = at_extent more q u b in
        let n : table'.depth ≡ suc table.depth = omega arith in
        let more = weighed_more rule.nodes table.ops table'.ops table.depth table'.depth op topped n in
        omega arith

  -- a ready operation that is opened adds none
  pub as_many_open : (table table' : Operations) (op : Operation) (p k : ℕ) → IsReady op
      → Topped table.ops table'.ops table.depth op → table'.depth ≡ table.depth + 1 →
      to_meet rule.nodes table p < k → to_meet rule.nodes table' p < k
  as_many_open table table' op p k ready topped deep less =
      let n : table'.depth ≡ suc table.depth = omega arith in
      let more = weighed_more rule.nodes table.ops table'.ops table.depth table'.depth op topped n in
      let light = ready_weight rule.nodes op ready in
      omega arith

  module _ (lists : Lists Value) where
    -- an operation that gives way: its left operand waits no more
    pub gives_way : (table table' : Operations) (op : Operation) (n p h : ℕ) (t : _) (env : _)
        → table'.ops ≡ table.ops → table'.depth + 1 ≡ table.depth →
        op_at table.ops (table.depth - 1) ≡ op → weight rule.nodes op ≡ span (node_at rule.nodes n)
        → Waits rule lists p h (span (node_at rule.nodes n)) t env →
        to_meet rule.nodes table' p < suc (2 * weighed rule.nodes table.ops table.depth)
    gives_way table table' op n p h t env same deep is heavy waits =
        let d : table.depth ≡ suc table'.depth = omega arith in
        let last : table.depth - 1 ≡ table'.depth = omega arith in
        let all : weighed rule.nodes table.ops table.depth ≡ weight rule.nodes
        (op_at table.ops table'.depth) + weighed rule.nodes table.ops table'.depth =
        ap (λ i. weighed rule.nodes table.ops i) d in
        let here : weight rule.nodes (op_at table.ops table'.depth) ≡ weight rule.nodes op =
        ap (λ i. weight rule.nodes (op_at table.ops i)) (sym last) ∙ ap (λ y. weight rule.nodes y) is in
        let below : weighed rule.nodes table'.ops table'.depth ≡ weighed rule.nodes table.ops table'.depth =
        ap (λ y. weighed rule.nodes y table'.depth) same in
        let e = at_extent _ p t waits.at in
        let sized = waits.sized in
        omega arith

    light : (op : Operation) (o : Open) → OpenFor rule lists op o → weight rule.nodes op ≤ length rule.nodes
    light (Argument n p h) o s = let i = s.3.at.inside in let e = s.3.sized in omega arith
    light (Applied n x) o s = omega arith
    light (Bound n p h) o s = omega arith
    light (SumRight n p h) o s = let i = s.3.at.inside in let e = s.3.sized in omega arith
    light (SumLeft n x) o s = omega arith
    light (CompareRight n p h) o s = let i = s.3.at.inside in let e = s.3.sized in omega arith
    light (CompareLeft n x) o s = omega arith
    light (Condition n p q h) o s = omega arith

    -- no more than the whole table for each operation
    bounded : (ops : List Operation) (d : ℕ) (os : List Open) → Stacked rule lists ops d os
        → weighed rule.nodes ops d ≤ d * length rule.nodes
    bounded ops zero os s = omega arith
    bounded ops (suc d) [] s = absurd s
    bounded ops (suc d) (o ∷ os) s =
        let a = light (op_at ops d) o s.0 in
        let b = bounded ops d os s.1 in
        let e : suc d * length rule.nodes ≡ length rule.nodes + d * length rule.nodes = omega arith in
        omega arith

    -- no run has more to go, with at most 256 operations open
    pub to_go_bounded : (table : Operations) (to : Next) (w : Work) → table.depth ≤ 256
        → Follows rule lists table to w → to_go rule.nodes table to < 2 * (257 * length rule.nodes) + 2
    to_go_bounded table (next.Value x) w low f =
        let a = bounded table.ops table.depth f.opens f.stacked in
        let b = mul-le-mul_right (length rule.nodes) low in
        omega arith
    to_go_bounded table (next.Node q) w low m =
        let a = bounded table.ops table.depth m.opens m.stacked in
        let b = mul-le-mul_right (length rule.nodes) low in
        let e = at_extent _ q.place m.term m.at in
        let i = m.at.inside in
        omega arith
