-- From a tree that was read to its record in the buffer. It serves functions inside; what compile promises does not
-- mention it.
use Rattle.std.specs.Prelude.{◌≡◌, ℕ, ◌<◌, ◌≤◌, min, ◌⊎◌, List, ◌++◌, length, drop, Ok, Err, Result}
use Rattle.syntax.specs.Tree.{Tree, nodes}
use Rattle.syntax.specs.Record.{encode, record_of}
use Rattle.text.specs.declared.fault.CompileFault.{CompileFault}
use Rattle.text.specs.declared.fault.CompileFault.TheVariants.{TooManyNodes, NoRoom}
use Rattle.nodes.specs.declared.table.Table.{Table}
use Rattle.nodes.specs.Nodes.{Holds, count}

-- a table holds the tree at its root, as far as it has room
pub record Held (table : Table) (t : Tree) (root : ℕ) : Type 0 where
  pub counted : count table ≡ min (nodes t) 513
  pub wide : count table ≤ 512 → table.bytes ≡ length (encode t)
  pub inside : count table ≤ 512 → root < count table
  pub holds : count table ≤ 512 → Holds table.nodes.items root t

-- the record of a tree that was read, or why there is none
abbrev pub Recorded : ℕ → Tree → List ℕ → List ℕ → Result ℕ CompileFault → Type 0
Recorded readings t before after (Ok n) =
    (nodes t ≤ 512) × (length (record_of readings t) ≤ length before) × (n ≡ length (record_of readings t))
    × (after ≡ record_of readings t ++ drop n before)
Recorded readings t before after (Err f) =
    (after ≡ before) × (((f ≡ TooManyNodes) × (512 < nodes t)) ⊎ ((f ≡ NoRoom) × (nodes t ≤ 512)
    × (length before < length (record_of readings t))))
