-- A whole record.
use Rattle.std.proofs.Common.{◌≡◌, ℕ, ◌+◌, ◌-◌, ◌<◌, ◌≤◌, List, [], ◌∷◌, length, Ok, sym, ap, ◌∙◌, subst, inr, arith}
use Rattle.syntax.specs.Tree.{Tree}
use Rattle.syntax.specs.Record.{encode, record_of, two_bytes}
use Rattle.syntax.specs.declared.node.Node.{Node}
use Rattle.record.specs.Bytes.{Stands}
use Rattle.record.specs.Nodes.{Holds}
use Rattle.record.specs.Proper.{Proper}
use Rattle.record.specs.Questions.{Refused, spare, Refusal}
use Rattle.record.specs.Reading.{Fronted, Grown, IsTree}
use Rattle.record.specs.declared.reader.Reader.{Reader}
use Rattle.record.proofs.Growing.{fault_behind}
use Rattle.record.proofs.Standing.{stands_join, stands_rest}

-- with no binder open, the readings alone are in force
pub none_more : (r : ℕ) → 0 + r ≡ r
none_more r = omega arith

-- the record goes on behind the tree
goes_on : (s : List ℕ) (r e : ℕ) (before after : List Node) (t : Tree) → Fronted s (Ok r) → (length before) ≡ 0
    → Grown s r 0 4 before after t e → e < length s → Refusal s 9 e
goes_on s r e before after t ok first g more =
    let small = ok.3 in
    let no_more : Refused s (r ∷ []) (length before) 4 9 e =
    subst (λ x. Refused s (x ∷ []) (length before) 4 9 e) (none_more r) (fault_behind s r 0 4 9 e e before after t []
    (omega arith) g (spare more)) in
    inr (ok.0, subst (λ x. Refused s (x ∷ []) 0 4 9 e) ok.1 (subst (λ x. Refused s (r ∷ []) x 4 9 e) first no_more))

-- the record ends with the tree
ends_here : (s : List ℕ) (r e : ℕ) (before after : List Node) (t : Tree) → Fronted s (Ok r) → (length before) ≡ 0
    → Grown s r 0 4 before after t e → length s ≤ e
    → IsTree (record { nodes = record { items = after }; readings = r }) t × (s ≡ record_of r t)
ends_here s r e before after t ok first g end =
    let ends = g.ends in
    let counted = g.counted in
    let few = g.few in
    let two = ok.4 in
    let inside = Rattle.record.proofs.Standing.stands_inside s 4 (encode t) g.bytes in
    let size : length s - 2 ≡ 2 + length (encode t) = omega arith in
    let long = ok.2 in
    let rest : Stands s 2 (1 ∷ r ∷ encode t) = (
      (let z : 2 < length s = omega arith in z),
      ok.5,
      ((let z : 3 < length s = omega arith in z), sym ok.1, g.bytes),
    ) in
    let whole : Stands s 0 (record_of r t) = stands_join s 0 (two_bytes (2 + length (encode t))) (1 ∷ r ∷ encode t)
    (subst (λ x. Stands s 0 (two_bytes x)) size two) rest in
    let tree : IsTree (record { nodes = record { items = after }; readings = r }) t = record {
      holds = subst (λ x. Holds after 0 x t) first g.holds;
      counted = omega arith;
      sendable = record { proper = subst (λ x. Proper x t) (none_more r) g.proper; few = omega arith; over = ok.3 };
    } in
    (tree, stands_rest s 0 (record_of r t) whole (omega arith))

-- the reader stands behind the first four bytes and has read no node
pub record Starts (s : List ℕ) (start : Reader) : Type 0 where
  pub bytes : start.bytes.now ≡ s
  pub place : start.place ≡ 4
  pub nodes : start.nodes.items ≡ []

pub refused_in_tree : (s : List ℕ) (r k q : ℕ) (start : Reader) → Fronted s (Ok r) → Starts s start
    → Refused start.bytes.now ((0 + r) ∷ []) (length start.nodes.items) start.place k q → Refusal s k q
refused_in_tree s r k q start ok starts f =
    inr (
      ok.0,
      subst (λ x. Refused s (x ∷ []) 0 4 k q) ok.1
          (subst (λ xs. Refused s (r ∷ []) (length xs) 4 k q) starts.nodes
          (subst (λ x. Refused s (r ∷ []) (length start.nodes.items) x k q) starts.place
          (subst (λ x. Refused x (r ∷ []) (length start.nodes.items) start.place k q) starts.bytes
          (subst (λ x. Refused start.bytes.now (x ∷ []) (length start.nodes.items) start.place k q) (none_more r) f)))),
    )

grown_from : (s : List ℕ) (r e : ℕ) (start : Reader) (after : List Node) (t : Tree) → Starts s start
    → Grown start.bytes.now r 0 start.place start.nodes.items after t e → Grown s r 0 4 start.nodes.items after t e
grown_from s r e start after t starts g = subst (λ x. Grown s r 0 x start.nodes.items after t e) starts.place
    (subst (λ x. Grown x r 0 start.place start.nodes.items after t e) starts.bytes g)

pub goes_on_behind : (s : List ℕ) (r : ℕ) (start after : Reader) (t : Tree) → Fronted s (Ok r) → Starts s start
    → after.bytes.now ≡ start.bytes.now
    → Grown start.bytes.now r 0 start.place start.nodes.items after.nodes.items t after.place
    → after.place < length after.bytes.now → Refusal s 9 after.place
goes_on_behind s r start after t ok starts same g more =
    goes_on s r after.place start.nodes.items after.nodes.items t ok (ap length starts.nodes)
    (grown_from s r after.place start after.nodes.items t starts g) (subst (λ x. after.place < length x) (same
    ∙ starts.bytes) more)

pub ends_behind : (s : List ℕ) (r : ℕ) (start after : Reader) (t : Tree) → Fronted s (Ok r) → Starts s start
    → after.bytes.now ≡ start.bytes.now
    → Grown start.bytes.now r 0 start.place start.nodes.items after.nodes.items t after.place
    → length after.bytes.now ≤ after.place → IsTree (record { nodes = after.nodes; readings = r }) t
    × (s ≡ record_of r t)
ends_behind s r start after t ok starts same g end =
    ends_here s r after.place start.nodes.items after.nodes.items t ok (ap length starts.nodes)
    (grown_from s r after.place start after.nodes.items t starts g) (subst (λ x. length x ≤ after.place) (same
    ∙ starts.bytes) end)
