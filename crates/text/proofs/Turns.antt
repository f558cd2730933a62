-- What the loops of the parser keep.
use Rattle.std.proofs.Common.{◌≡◌, ℕ, false, List, ◌++◌}
use mathlib.Core.Option.{some}
use Rattle.syntax.specs.Tree.{Tree}
use Rattle.grammar.specs.Automaton.{starts_atom}
use Rattle.grammar.specs.Classes.{ReadApp, ReadSum}
use Rattle.grammar.specs.Grammar.{Expr}
use Rattle.grammar.specs.Names.{resolved}
use Rattle.grammar.specs.Token.{Name}
use Rattle.grammar.specs.Walking.{Stand, Through}
use Rattle.nodes.specs.declared.table.Table.{Table}
use Rattle.text.specs.declared.parser.Parser.{Parser}
use Rattle.nodes.specs.Nodes.{Grown}
use Rattle.text.specs.Parsing.{Source, source, at}

-- a class was read from p, with its nodes put behind those of a table
abbrev pub Read : (Stand → Expr → Type 0) → List Name → Table → Parser → ℕ → Type 0
Read Class names before after root = (e : Expr) × (t : Tree) × Class (at after) e × (resolved names e ≡ some t)
    × Grown before after.table t root

module _ (src : Source) (opened : List Name) (first : Parser) (root : ℕ) (now : Parser) (root' : ℕ) where
  -- from the same text, and whatever was read up to the loop goes on to be read up to now
  abbrev pub ApplicationSoFar : Type 0
  ApplicationSoFar =
      Through src.text (at first) (at now) × (source now ≡ src) × ((p : Stand) (before : Table)
      → Read (ReadApp src.book (opened ++ src.book) src.text p) (opened ++ src.book) before first root
      → Read (ReadApp src.book (opened ++ src.book) src.text p) (opened ++ src.book) before now root')

  abbrev pub SumSoFar : Type 0
  SumSoFar =
      Through src.text (at first) (at now) × (source now ≡ src) × (starts_atom (at first).token ≡ false
      → starts_atom (at now).token ≡ false) × ((p : Stand) (before : Table)
      → Read (ReadSum src.book (opened ++ src.book) src.text p) (opened ++ src.book) before first root
      → Read (ReadSum src.book (opened ++ src.book) src.text p) (opened ++ src.book) before now root')
