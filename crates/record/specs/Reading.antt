-- What reading a record comes to.
use Rattle.std.specs.Prelude.{◌≡◌, ℕ, ◌+◌, ◌-◌, ◌<◌, ◌≤◌, List, ◌∷◌, length, Ok, Err, Result, slice_index}
use Rattle.std.proofs.Math.Option.{some, none}
use Rattle.syntax.specs.Tree.{Tree, nodes}
use Rattle.syntax.specs.Record.{encode, two_bytes, record_of}
use Rattle.record.specs.declared.fault.RecordFault.{RecordFault}
use Rattle.record.specs.declared.fault.RecordFault.TheVariants.{Unbound}
use Rattle.record.specs.declared.reader.Reader.{Reader}
use Rattle.record.specs.declared.received.Received.{Received}
use Rattle.syntax.specs.Kinds.{byte_of, operands_of}
use Rattle.syntax.specs.declared.kind.Kind.{Kind}
use Rattle.syntax.specs.declared.node.Node.{Node}
use Rattle.record.specs.Bytes.{Stands, two_at}
use Rattle.record.specs.Faults.{number_of, place_of}
use Rattle.record.specs.Nodes.{node_at, Holds}
use Rattle.record.specs.Proper.{Proper, Sendable}
use Rattle.record.specs.Questions.{front, asked, Refused, Refusal}

-- node n is among the first 512, its kind byte at place p is this kind's, and its number or distance bytes are all
-- there
pub record Heads (s : List ℕ) (n p : ℕ) (kind : Kind) : Type 0 where
  pub among : n < 512
  pub here : p < length s
  pub byte : slice_index s p ≡ byte_of kind
  pub whole : p + (1 + operands_of kind) ≤ length s

-- such a node, or the refusal that it gets however many variables are in force around it
abbrev pub Headed : List ℕ → ℕ → ℕ → Result Kind RecordFault → Type 0
Headed s n p (Ok kind) = Heads s n p kind
Headed s n p (Err f) = (b : ℕ) → asked s b n p ≡ some (number_of f, place_of f)

-- the distance of the variable at place p, below b, or the refusal of one that is not
abbrev pub Distance : List ℕ → ℕ → ℕ → Result ℕ RecordFault → Type 0
Distance s p b (Ok d) = (d < b) × Stands s (p + 1) (two_bytes d)
Distance s p b (Err f) = (f ≡ Unbound p) × (b ≤ two_at s (p + 1))

-- a tree under b binders and r readings was read from place p to place e, and its nodes were put behind those that
-- stood
-- in the table
pub record Grown (s : List ℕ) (r b p : ℕ) (before after : List Node) (t : Tree) (e : ℕ) : Type 0 where
  pub counted : length after ≡ length before + nodes t
  pub few : length after ≤ 512
  pub ends : e ≡ p + length (encode t)
  pub bytes : Stands s p (encode t)
  pub proper : Proper (b + r) t
  pub holds : Holds after b (length before) t
  pub kept : (i : ℕ) → i < length before → node_at after i ≡ node_at before i

-- one tree with b binders and r readings in force around it, or a refusal, whatever has to come behind the tree
abbrev pub ReadsTree : ℕ → ℕ → Reader → Reader → Result (Unit {0}) RecordFault → Type 0
ReadsTree r b before after (Ok u) = (after.bytes.now ≡ before.bytes.now) × (t : Tree)
    × Grown before.bytes.now r b before.place before.nodes.items after.nodes.items t after.place
ReadsTree r b before after (Err f) = (more : List ℕ) → Refused before.bytes.now ((b + r) ∷ more)
    (length before.nodes.items) before.place (number_of f) (place_of f)

-- two trees, the second with its root at node m
pub record GrownTwice (s : List ℕ) (r b c p : ℕ) (before after : List Node) (t u : Tree) (m e : ℕ) : Type 0 where
  pub second : m ≡ length before + nodes t
  pub counted : length after ≡ length before + (nodes t + nodes u)
  pub few : length after ≤ 512
  pub ends : e ≡ p + (length (encode t) + length (encode u))
  pub first_bytes : Stands s p (encode t)
  pub second_bytes : Stands s (p + length (encode t)) (encode u)
  pub first_proper : Proper (b + r) t
  pub second_proper : Proper (c + r) u
  pub first_holds : Holds after b (length before) t
  pub second_holds : Holds after c (length before + nodes t) u
  pub kept : (i : ℕ) → i < length before → node_at after i ≡ node_at before i

abbrev pub ReadsTwo : ℕ → ℕ → ℕ → Reader → Reader → Result ℕ RecordFault → Type 0
ReadsTwo r b c before after (Ok m) = (after.bytes.now ≡ before.bytes.now) × (t u : Tree)
    × GrownTwice before.bytes.now r b c before.place before.nodes.items after.nodes.items t u m after.place
ReadsTwo r b c before after (Err f) = (more : List ℕ) → Refused before.bytes.now ((b + r) ∷ (c + r) ∷ more)
    (length before.nodes.items) before.place (number_of f) (place_of f)

-- the first four bytes are in order, or the first no
abbrev pub Fronted : List ℕ → Result ℕ RecordFault → Type 0
Fronted s (Ok r) = (front s ≡ none) × (r ≡ slice_index s 3) × (4 ≤ length s) × (r ≤ 8)
    × Stands s 0 (two_bytes (length s - 2)) × (slice_index s 2 ≡ 1)
Fronted s (Err f) = front s ≡ some (number_of f, place_of f)

-- the table holds this tree and nothing else, and the tree may be sent
pub record IsTree (r : Received) (t : Tree) : Type 0 where
  pub holds : Holds r.nodes.items 0 0 t
  pub counted : length r.nodes.items ≡ nodes t
  pub sendable : Sendable r.readings t

-- the bytes are the record of the tree received, or they are refused
abbrev pub Judged : List ℕ → Result Received RecordFault → Type 0
Judged s (Ok r) = (t : Tree) × IsTree r t × (s ≡ record_of r.readings t)
Judged s (Err f) = Refusal s (number_of f) (place_of f)
