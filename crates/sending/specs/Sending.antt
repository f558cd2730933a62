-- What compile writes, accepting reads.
use Rattle.std.specs.Prelude.{◌≡◌, ℕ, ◌≤◌, List, length, Ok, Result}
use Rattle.syntax.specs.Tree.{Tree}
use Rattle.syntax.specs.Record.{record_of}
use Rattle.grammar.specs.Token.{Name}
use Rattle.grammar.specs.Verdict.{Means, Verdict, compiled}
use Rattle.record.specs.Proper.{Sendable}
use Rattle.record.specs.Questions.{Refusal}
use Rattle.record.specs.Reading.{IsTree, Judged}
use Rattle.record.specs.declared.fault.RecordFault.{RecordFault}
use Rattle.record.specs.declared.received.Received.{Received}

-- the bytes are the record of the tree that the text means; none of the questions 1 to 9 gets a no, and whoever reads
-- them receives this tree over as many readings as the book has names
pub record Read (book : List Name) (s bytes : List ℕ) : Type 0 where
  pub tree : Tree
  pub means : Means book s tree
  pub sendable : Sendable (length book) tree
  pub is_record : bytes ≡ record_of (length book) tree
  pub never_refused : (k q : ℕ) → ¬ Refusal bytes k q
  pub received :
      (answer : Result Received RecordFault) →
      Judged bytes answer →
      (x : Received) × (answer ≡ Ok x) × IsTree x tree × (x.readings ≡ length book)

-- A book has at most 8 names.
abbrev pub WrittenIsRead : Type 0
WrittenIsRead =
    (book : List Name) (s : List ℕ) (room : ℕ) (bytes : List ℕ) →
    length book ≤ 8 →
    Verdict book s room (compiled bytes) →
    Read book s bytes
