-- What the limits promise of each other.
use Rattle.std.specs.Prelude.{ℕ, ◌≤◌, length}
use Rattle.syntax.specs.Tree.{Tree, nodes}
use Rattle.syntax.specs.Record.{record_of}

-- no tree of so many nodes has a longer record
abbrev pub RecordsWithin : ℕ → ℕ → Type 0
RecordsWithin most bytes = (r : ℕ) (t : Tree) → nodes t ≤ most → length (record_of r t) ≤ bytes
