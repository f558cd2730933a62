-- How reading goes on, as the reader stands before and after each step.
use Rattle.std.proofs.Common.{◌≡◌, ℕ, ◌+◌, ◌<◌, ◌≤◌, Bool, true, false, List, [], ◌∷◌, ◌++◌, length, set, pos, sym}
use Rattle.std.proofs.Common.{refl, ap, ◌∙◌, subst, Ok, arith, length-append}
use Rattle.syntax.specs.Tree.{Tree, nodes, truth, function, if_else}
use Rattle.syntax.specs.Record.{encode}
use Rattle.syntax.specs.declared.node.Node.{Node}
use Rattle.syntax.specs.declared.node.Node.TheVariants.{Number, Truth, Function, IfElse}
use Rattle.syntax.specs.declared.kind.Kind.{Kind}
use Rattle.syntax.specs.Kinds.{byte_of, kind_of, operands_of}
use Rattle.record.specs.declared.reader.Reader.{Reader}
use Rattle.record.specs.Bytes.{Stands}
use Rattle.record.specs.Nodes.{node_at, Holds}
use Rattle.record.specs.Proper.{Proper}
use Rattle.record.specs.Questions.{children, Refused}
use Rattle.record.specs.Reading.{Heads, Grown, GrownTwice, ReadsTree, ReadsTwo}
use Rattle.record.proofs.Asking.{kind, own, own_long, opening, Fine, Opens}
use Rattle.record.proofs.Growing.{Put, grown_leaf, grown_body, grown_pair, grown_three, grown_twice, fault_behind}
use Rattle.record.proofs.Growing.{fault_behind_two}
use Rattle.record.proofs.Walking.{past}

-- a node's own bytes were gone over, and a place was taken for it
pub record Begun (b : ℕ) (before opened : Reader) (h : Node) : Type 0 where
  pub opens : Opens before.bytes.now b (length before.nodes.items) before.place h
  pub bytes : opened.bytes.now ≡ before.bytes.now
  pub place : opened.place ≡ before.place + length (opening h)
  pub nodes : opened.nodes.items ≡ before.nodes.items ++ Number (pos 0) ∷ []

pub begun : (b : ℕ) (before opened : Reader) (k : Kind) (h : Node) → k ≡ kind_of h
    → Heads before.bytes.now (length before.nodes.items) before.place k → Stands before.bytes.now (before.place + 1)
    (own h) → Fine b h
    → opened.bytes.now ≡ before.bytes.now → opened.place ≡ before.place + (1 + operands_of k)
    → opened.nodes.items ≡ before.nodes.items ++ Number (pos 0) ∷ [] → Begun b before opened h
begun b before opened k h is heads operands fine bytes place nodes =
    let long = own_long h in
    record {
      opens = record { among = heads.among; bytes = (heads.here, heads.byte ∙ ap byte_of is, operands); fine = fine };
      bytes = bytes;
      place = place ∙ ap (λ k. before.place + (1 + operands_of k)) is ∙ ap (λ n. before.place + n)
          (let z : 1 + operands_of (kind_of h) ≡ length (opening h) = omega arith in z);
      nodes = nodes;
    }

-- a node that is its kind byte alone
pub begun_plain : (b : ℕ) (before opened : Reader) (k : Kind) (h : Node) → k ≡ kind_of h → own h ≡ [] → Fine b h
    → Heads before.bytes.now (length before.nodes.items) before.place k
    → opened.bytes.now ≡ before.bytes.now → opened.place ≡ before.place + (1 + operands_of k)
    → opened.nodes.items ≡ before.nodes.items ++ Number (pos 0) ∷ [] → Begun b before opened h
begun_plain b before opened k h is none fine heads bytes place nodes =
    let here = heads.here in
    let inside : before.place + 1 ≤ length before.bytes.now = omega arith in
    begun b before opened k h is heads (subst (λ w. Stands before.bytes.now (before.place + 1) w) (sym none) inside)
    fine bytes place nodes

-- a binder more among the names in force
pub one_more : (b r : ℕ) → b + r + 1 ≡ b + 1 + r
one_more b r = omega arith

-- no more names are in force than nodes were read, readings apart
pub in_reach : (b r n : ℕ) → b ≤ n → r ≤ 8 → b + r ≤ n + 8
in_reach b r n few small = omega arith

pub next_in_reach : (b r n : ℕ) → b ≤ n + 1 → r ≤ 8 → b + r ≤ n + 9
next_in_reach b r n few small = omega arith

-- a refusal among the children of a node
pub fault_below : (b k q : ℕ) (before opened : Reader) (h : Node) (cs : List ℕ) → children (kind h) b ≡ cs
    → b ≤ length before.nodes.items + 8 → Begun b before opened h
    → ((more : List ℕ) → Refused opened.bytes.now (cs ++ more) (length opened.nodes.items) opened.place k q)
    → (more : List ℕ) → Refused before.bytes.now (b ∷ more) (length before.nodes.items) before.place k q
fault_below b k q before opened h cs below small start r more =
    let n = length before.nodes.items in
    let s = before.bytes.now in
    let few = start.opens.among in
    let at : length opened.nodes.items ≡ n + 1 = ap length start.nodes ∙ length-append before.nodes.items
    (Number (pos 0) ∷ []) in
    past s b n before.place k q more h (omega arith) start.opens
    (subst (λ l. Refused s (l ++ more) (n + 1) (before.place + length (opening h)) k q) (sym below)
    (subst (λ x. Refused s (cs ++ more) (n + 1) x k q) start.place
    (subst (λ x. Refused s (cs ++ more) x opened.place k q) at
    (subst (λ x. Refused x (cs ++ more) (length opened.nodes.items) opened.place k q) start.bytes (r more)))))

-- a refusal behind one tree, and behind two
pub fault_after : (r b k q : ℕ) (before after : Reader) (t : Tree) (more : List ℕ)
    → b + r ≤ length before.nodes.items + 8 → after.bytes.now ≡ before.bytes.now
    → Grown before.bytes.now r b before.place before.nodes.items after.nodes.items t after.place
    → Refused after.bytes.now more (length after.nodes.items) after.place k q
    → Refused before.bytes.now ((b + r) ∷ more) (length before.nodes.items) before.place k q
fault_after r b k q before after t more small same g f =
    fault_behind before.bytes.now r b before.place k q after.place before.nodes.items after.nodes.items t more small g
    (subst (λ s. Refused s more (length after.nodes.items) after.place k q) same f)

pub fault_after_two : (r b c k q m : ℕ) (before after : Reader) (t u : Tree) (more : List ℕ)
    → b + r ≤ length before.nodes.items + 8 → c + r ≤ length before.nodes.items + 9 → after.bytes.now ≡ before.bytes.now
    → GrownTwice before.bytes.now r b c before.place before.nodes.items after.nodes.items t u m after.place
    → Refused after.bytes.now more (length after.nodes.items) after.place k q
    → Refused before.bytes.now ((b + r) ∷ (c + r) ∷ more) (length before.nodes.items) before.place k q
fault_after_two r b c k q m before after t u more small next same g f =
    fault_behind_two before.bytes.now r b c before.place k q m after.place before.nodes.items after.nodes.items t u
    more small next g (subst (λ s. Refused s more (length after.nodes.items) after.place k q) same f)

-- two trees, one behind the other
pub read_two : (r b c m : ℕ) (before mid after : Reader) (t u : Tree) → mid.bytes.now ≡ before.bytes.now
    → Grown before.bytes.now r b before.place before.nodes.items mid.nodes.items t mid.place
    → after.bytes.now ≡ mid.bytes.now → Grown mid.bytes.now r c mid.place mid.nodes.items after.nodes.items u
    after.place → m ≡ length mid.nodes.items → ReadsTwo r b c before after (Ok m)
read_two r b c m before mid after t u same g still h at = (
  still ∙ same,
  t,
  u,
  subst (λ x. GrownTwice before.bytes.now r b c before.place before.nodes.items after.nodes.items t u x after.place)
      (sym at)
      (grown_twice before.bytes.now r b c before.place mid.place after.place before.nodes.items mid.nodes.items
      after.nodes.items t u g (subst (λ s. Grown s r c mid.place mid.nodes.items after.nodes.items u after.place)
      same h)),
)

-- the node was put into its place
pub record Done (before mid after : Reader) (node : Node) : Type 0 where
  pub bytes : after.bytes.now ≡ mid.bytes.now
  pub place : after.place ≡ mid.place
  pub nodes : after.nodes.items ≡ set mid.nodes.items (length before.nodes.items) node

pub done : (at : ℕ) (before mid' mid after : Reader) (node' node : Node) → at ≡ length before.nodes.items → mid' ≡ mid
    → node' ≡ node → after.bytes.now ≡ mid'.bytes.now → after.place ≡ mid'.place
    → after.nodes.items ≡ set mid'.nodes.items at node' → Done before mid after node
done at before mid' mid after node' node at_is same is bytes place nodes =
    record {
      bytes = bytes ∙ ap (λ (x : Reader). x.bytes.now) same;
      place = place ∙ ap (λ (x : Reader). x.place) same;
      nodes = nodes ∙ ap (λ x. set mid'.nodes.items x node') at_is
          ∙ ap (λ (x : Reader). set x.nodes.items (length before.nodes.items) node') same
          ∙ ap (λ x. set mid.nodes.items (length before.nodes.items) x) is;
    }

module _ (r b : ℕ) (before opened mid after : Reader) (h : Node) (node : Node) (start : Begun (b + r) before opened h)
    (end : Done before mid after node) where
  made : length before.nodes.items < length mid.nodes.items → Put before.nodes.items opened.nodes.items
      mid.nodes.items after.nodes.items node
  made room =
      record {
        among = start.opens.among;
        opened_is = start.nodes;
        room = room;
        after_is = end.nodes;
      }

  grown : mid.bytes.now ≡ opened.bytes.now → (t : Tree) → Grown before.bytes.now r b before.place before.nodes.items
      after.nodes.items t mid.place → ReadsTree r b before after (Ok tt)
  grown same t g = (
    end.bytes ∙ same ∙ start.bytes,
    t,
    subst (λ x. Grown before.bytes.now r b before.place before.nodes.items after.nodes.items t x) (sym end.place) g,
  )

-- a node without children
pub read_leaf : (r b : ℕ) (before opened after : Reader) (h : Node) (node : Node) (t : Tree)
    → Begun (b + r) before opened h → Done before opened after node → nodes t ≡ 1 → encode t ≡ opening h
    → Proper (b + r) t
    → (node_at after.nodes.items (length before.nodes.items) ≡ node
    → Holds after.nodes.items b (length before.nodes.items) t) → ReadsTree r b before after (Ok tt)
read_leaf r b before opened after h node t start end one code proper holds =
    let s = before.bytes.now in
    let long : length opened.nodes.items ≡ length before.nodes.items + 1 = ap length start.nodes
    ∙ length-append before.nodes.items (Number (pos 0) ∷ []) in
    let put = made r b before opened opened after h node start end (omega arith) in
    let ends : before.place + length (encode t) ≡ opened.place = ap (λ w. before.place + length w) code
    ∙ sym start.place in
    let bytes : Stands s before.place (encode t) = subst (λ w. Stands s before.place w) (sym code) start.opens.bytes in
    let g = grown_leaf before.nodes.items opened.nodes.items opened.nodes.items after.nodes.items node put s r b
    before.place t refl one bytes proper holds in
    grown r b before opened opened after h node start end refl t
    (subst (λ e. Grown s r b before.place before.nodes.items after.nodes.items t e) ends g)

pub read_truth : (r b : ℕ) (before opened after : Reader) (v : Bool) → Begun (b + r) before opened (Node.Truth v)
    → Done before opened after (Truth v) → ReadsTree r b before after (Ok tt)
read_truth r b before opened after true start end = read_leaf r b before opened after (Node.Truth true) (Truth true)
    (truth true) start end refl refl tt (λ e. e)
read_truth r b before opened after false start end = read_leaf r b before opened after (Node.Truth false)
    (Truth false) (truth false) start end refl refl tt (λ e. e)

-- what was read from where the reader stood stands in the record behind the node's own bytes
below : (s s' : List ℕ) (r b p p' e : ℕ) (xs ys : List Node) (t : Tree) → s' ≡ s → p' ≡ p → Grown s' r b p' xs ys t e
    → Grown s r b p xs ys t e
below s s' r b p p' e xs ys t same there g = subst (λ x. Grown x r b p xs ys t e) same
    (subst (λ x. Grown s' r b x xs ys t e) there g)

both_below : (s s' : List ℕ) (r b c p p' m e : ℕ) (xs ys : List Node) (t u : Tree) → s' ≡ s → p' ≡ p
    → GrownTwice s' r b c p' xs ys t u m e → GrownTwice s r b c p xs ys t u m e
both_below s s' r b c p p' m e xs ys t u same there g = subst (λ x. GrownTwice x r b c p xs ys t u m e) same
    (subst (λ x. GrownTwice s' r b c x xs ys t u m e) there g)

pub read_body : (r b : ℕ) (before opened mid after : Reader) (node : Node) (t : Tree) → Begun (b + r) before opened
    (Node.Function 0) → Done before mid after node → mid.bytes.now ≡ opened.bytes.now
    → Grown opened.bytes.now r (b + 1) opened.place opened.nodes.items mid.nodes.items t mid.place
    → node ≡ Function (length before.nodes.items + 1) → ReadsTree r b before after (Ok tt)
read_body r b before opened mid after node t start end same g is =
    let s = before.bytes.now in
    let counted = g.counted in
    let long : length opened.nodes.items ≡ length before.nodes.items + 1 = ap length start.nodes
    ∙ length-append before.nodes.items (Number (pos 0) ∷ []) in
    let put = made r b before opened mid after (Node.Function 0) node start end (omega arith) in
    let g' = below s opened.bytes.now r (b + 1) (before.place + 1) opened.place mid.place opened.nodes.items
    mid.nodes.items t start.bytes start.place g in
    grown r b before opened mid after (Node.Function 0) node start end same (function t)
    (grown_body before.nodes.items opened.nodes.items mid.nodes.items after.nodes.items node put s r b
    before.place mid.place t is start.opens.bytes g')

pub read_pair : (r b c z m : ℕ) (before opened mid after : Reader) (h : Node) (node : Node) (t u v : Tree)
    → opening h ≡ z ∷ [] → Begun (b + r) before opened h → Done before mid after node → mid.bytes.now ≡ opened.bytes.now
    → GrownTwice opened.bytes.now r b c opened.place opened.nodes.items mid.nodes.items t u m mid.place
    → nodes v ≡ 1 + (nodes t + nodes u) → encode v ≡ z ∷ (encode t ++ encode u) → (Proper (b + r) t → Proper (c + r) u
    → Proper (b + r) v)
    → (m ≡ length before.nodes.items + (1 + nodes t) → node_at after.nodes.items (length before.nodes.items) ≡ node
    → Holds after.nodes.items b (length before.nodes.items + 1) t
    → Holds after.nodes.items c (length before.nodes.items + (1 + nodes t)) u
    → Holds after.nodes.items b (length before.nodes.items) v)
    → ReadsTree r b before after (Ok tt)
read_pair r b c z m before opened mid after h node t u v code start end same g size spelled proper holds =
    let s = before.bytes.now in
    let counted = g.counted in
    let long : length opened.nodes.items ≡ length before.nodes.items + 1 = ap length start.nodes
    ∙ length-append before.nodes.items (Number (pos 0) ∷ []) in
    let put = made r b before opened mid after h node start end (omega arith) in
    let first : Stands s before.place (z ∷ []) = subst (λ w. Stands s before.place w) code start.opens.bytes in
    let there : opened.place ≡ before.place + 1 = start.place ∙ ap (λ w. before.place + length w) code in
    let g' = both_below s opened.bytes.now r b c (before.place + 1) opened.place m mid.place opened.nodes.items
    mid.nodes.items t u start.bytes there g in
    grown r b before opened mid after h node start end same v (grown_pair before.nodes.items opened.nodes.items
    mid.nodes.items after.nodes.items node put s r b c before.place m mid.place z t u v first g' size spelled
    proper holds)

pub read_three : (r b m at third : ℕ) (before opened half mid after : Reader) (node : Node) (t u v : Tree)
    → Begun (b + r) before opened (Node.IfElse 0 0 0) → Done before mid after node
    → half.bytes.now ≡ opened.bytes.now → GrownTwice opened.bytes.now r b b opened.place opened.nodes.items
    half.nodes.items t u m half.place
    → mid.bytes.now ≡ half.bytes.now → Grown half.bytes.now r b half.place half.nodes.items mid.nodes.items v mid.place
    → at ≡ length before.nodes.items → third ≡ length half.nodes.items → node ≡ IfElse (at + 1) m third
    → ReadsTree r b before after (Ok tt)
read_three r b m at third before opened half mid after node t u v start end same g still k at_is third_is is =
    let s = before.bytes.now in
    let counted = g.counted in
    let more = k.counted in
    let long : length opened.nodes.items ≡ length before.nodes.items + 1 = ap length start.nodes
    ∙ length-append before.nodes.items (Number (pos 0) ∷ []) in
    let put = made r b before opened mid after (Node.IfElse 0 0 0) node start end (omega arith) in
    let g' = both_below s opened.bytes.now r b b (before.place + 1) opened.place m half.place opened.nodes.items
    half.nodes.items t u start.bytes start.place g in
    let k' = below s half.bytes.now r b half.place half.place mid.place half.nodes.items mid.nodes.items v (same
    ∙ start.bytes) refl k in
    grown r b before opened mid after (Node.IfElse 0 0 0) node start end (still ∙ same) (if_else t u v)
    (grown_three before.nodes.items opened.nodes.items mid.nodes.items after.nodes.items node put s r b before.place m
    half.place mid.place at third half.nodes.items t u v start.opens.bytes g' k' at_is third_is is)
