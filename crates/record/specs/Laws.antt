-- What is proved of every byte string, and of what is received.
use Rattle.std.specs.Prelude.{◌≡◌, ℕ, List}
use Rattle.syntax.specs.Tree.{Tree}
use Rattle.syntax.specs.Record.{record_of}
use Rattle.record.specs.Proper.{Sendable}
use Rattle.record.specs.Questions.{Refusal}
use Rattle.record.specs.Reading.{IsTree}
use Rattle.record.specs.declared.received.Received.{Received}

-- The record of a tree that may be sent is never refused, and is the record of no other; a byte string gets one
-- refusal at most. So reading and writing undo each other, and what is refused is the record of no such tree.
pub record OneReading : Type 0 where
  pub never_refused : (r : ℕ) (t : Tree) (k q : ℕ) → Sendable r t → ¬ Refusal (record_of r t) k q
  pub one_tree : (r q : ℕ) (t u : Tree) → Sendable r t → Sendable q u → record_of r t ≡ record_of q u → (r ≡ q)
      × (t ≡ u)
  pub one_refusal : (s : List ℕ) (k k' q q' : ℕ) → Refusal s k q → Refusal s k' q' → (k ≡ k') × (q ≡ q')

-- The nodes that are received are those of one tree and no other.
abbrev pub OneTree : Type 0
OneTree = (x : Received) (t u : Tree) → IsTree x t → IsTree x u → t ≡ u
