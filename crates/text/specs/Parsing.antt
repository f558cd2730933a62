-- What each function of the parser comes to.
use Rattle.std.specs.Prelude.{◌≡◌, ℕ, ◌*◌, ◌≤◌, Bool, true, false, ◌⊎◌, List, [], ◌++◌, Ok, Err, Result}
use Rattle.std.specs.Borrow.{Bor}
use Rattle.std.proofs.Math.Option.{Option, some, none}
use Rattle.syntax.specs.Tree.{Tree}
use Rattle.grammar.specs.declared.Mark.TheVariants.{Fun, Let, In, If, Then, Else, True, False, Arrow, Equals, AtMost}
use Rattle.grammar.specs.declared.Mark.TheVariants.{Plus, Open, Close}
use Rattle.grammar.specs.Automaton.{starts_atom}
use Rattle.grammar.specs.Classes.{ReadAtom, ReadApp, ReadSum, ReadExpr, RefusedAtom, RefusedApp, RefusedSum}
use Rattle.grammar.specs.Classes.{RefusedCmp, RefusedExpr}
use Rattle.grammar.specs.Grammar.{Expr, literal, boolean, used}
use Rattle.grammar.specs.Names.{distance, resolved}
use Rattle.grammar.specs.Token.{is}
use Rattle.grammar.specs.Token as plain
use Rattle.grammar.specs.Walking.{Stand, Went, Unread, Missed, is_name}
use Rattle.arrayvec.specs.ArrayVec.{array_vec_len}
use Rattle.book.specs.Books.{names}
use Rattle.book.specs.declared.book.Book.{Book}
use Rattle.lexer.specs.declared.fault.LexFault.{LexFault}
use Rattle.text.specs.declared.fault.CompileFault.{CompileFault}
use Rattle.text.specs.declared.fault.CompileFault.TheVariants.{Lex}
use Rattle.syntax.specs.declared.node.Node.{Node}
use Rattle.text.specs.declared.parser.Parser.{Parser}
use Rattle.text.specs.declared.scope.Scope.{Scope}
use Rattle.text.specs.Faults.{number, place}
use Rattle.nodes.specs.Nodes.{Grown, One}
use Rattle.text.specs.Standing.{stand}

-- what a text is read with: its bytes, and the names of the readings
pub record Source : Type 0 where
  pub text : List ℕ
  pub book : List plain.Name

abbrev pub source : Parser → Source
source p = record { text = p.text.now; book = names p.book.now }

abbrev pub at : Parser → Stand
at p = stand p.current

-- each name in force took three tokens to open
abbrev pub Room : Parser → Scope → Type 0
Room p scope = 3 * array_vec_len scope.names ≤ p.current.place

-- before the first token
abbrev pub nowhere : Stand
nowhere = record { token = plain.end; place = 0; stop = 0 }

-- at the first token of a text, with no nodes
abbrev pub Began : List ℕ → Book → Result Parser LexFault → Type 0
Began text book (Ok p) = Went text nowhere (at p) × (source p ≡ record { text = text; book = names book })
    × (p.table.nodes.items ≡ []) × (p.table.bytes ≡ 0)
Began text book (Err f) = Unread text 0 (number (Lex f)) (place (Lex f))

-- the next token, with the same nodes
abbrev pub Advanced : Source → Parser → Parser → Result (Unit {0}) LexFault → Type 0
Advanced src before after (Ok u) = Went src.text (at before) (at after) × (after.table ≡ before.table)
    × (source after ≡ src)
Advanced src before after (Err f) = Unread src.text before.current.stop (number (Lex f)) (place (Lex f))

-- over a token that was asked for
abbrev pub Passed : (plain.Token → Bool) → Source → Parser → Parser → Result (Unit {0}) CompileFault → Type 0
Passed asked src before after (Ok u) = (asked (at before).token ≡ true) × Went src.text (at before) (at after)
    × (after.table ≡ before.table) × (source after ≡ src)
Passed asked src before after (Err f) = Missed asked src.text (at before) (number f) (place f)

-- over a name, which is answered
abbrev pub Named : Source → Parser → Parser → Result (Bor (List ℕ)) CompileFault → Type 0
Named src before after (Ok x) = ((at before).token ≡ plain.name x.now) × Went src.text (at before) (at after)
    × (after.table ≡ before.table) × (source after ≡ src)
Named src before after (Err f) = Missed is_name src.text (at before) (number f) (place f)

-- a tree was read and its nodes stand in the table, or the refusal holds
abbrev pub Parsed : (Expr → Type 0) → (ℕ → ℕ → Type 0) → Source → List plain.Name → Parser → Parser
    → Result ℕ CompileFault → Type 0
Parsed Read Refused src names before after (Ok root) = (e : Expr) × (t : Tree) × Read e × (resolved names e ≡ some t)
    × Grown before.table after.table t root × (source after ≡ src)
Parsed Read Refused src names before after (Err f) = Refused (number f) (place f)

module _ (src : Source) (opened : List plain.Name) (before after : Parser) where
  abbrev pub ReadsAtom : Result ℕ CompileFault → Type 0
  ReadsAtom =
      Parsed (ReadAtom src.book (opened ++ src.book) src.text (at before) (at after))
      (RefusedAtom src.book (opened ++ src.book) src.text (at before)) src (opened ++ src.book) before after

  -- up to a token that begins no argument
  abbrev pub ReadsApplication : Result ℕ CompileFault → Type 0
  ReadsApplication =
      Parsed (λ e. ReadApp src.book (opened ++ src.book) src.text (at before) (at after) e
      × (starts_atom (at after).token ≡ false)) (RefusedApp src.book (opened ++ src.book) src.text (at before))
      src (opened ++ src.book) before after

  -- up to a token that is no `+` either
  abbrev pub ReadsSum : Result ℕ CompileFault → Type 0
  ReadsSum =
      Parsed (λ e. ReadSum src.book (opened ++ src.book) src.text (at before) (at after) e
      × (starts_atom (at after).token ≡ false) × (is Plus (at after).token ≡ false))
      (RefusedSum src.book (opened ++ src.book) src.text (at before)) src (opened ++ src.book) before after

  abbrev pub ReadsComparison : Result ℕ CompileFault → Type 0
  ReadsComparison =
      Parsed (ReadExpr src.book (opened ++ src.book) src.text (at before) (at after))
      (RefusedCmp src.book (opened ++ src.book) src.text (at before)) src (opened ++ src.book) before after

  abbrev pub ReadsExpr : Result ℕ CompileFault → Type 0
  ReadsExpr =
      Parsed (ReadExpr src.book (opened ++ src.book) src.text (at before) (at after))
      (RefusedExpr src.book (opened ++ src.book) src.text (at before)) src (opened ++ src.book) before after

-- the expression of a token that is an atom by itself
abbrev pub leaf : plain.Token → Option Expr
leaf (plain.mark Fun) = none
leaf (plain.mark Let) = none
leaf (plain.mark In) = none
leaf (plain.mark If) = none
leaf (plain.mark Then) = none
leaf (plain.mark Else) = none
leaf (plain.mark True) = some (boolean true)
leaf (plain.mark False) = some (boolean false)
leaf (plain.mark Arrow) = none
leaf (plain.mark Equals) = none
leaf (plain.mark AtMost) = none
leaf (plain.mark Plus) = none
leaf (plain.mark Open) = none
leaf (plain.mark Close) = none
leaf (plain.name x) = some (used x)
leaf (plain.numeral z) = some (literal z)
leaf plain.end = none

-- the node of an atom that is one token, or why it is none: no atom begins here, or a name is not in force
abbrev pub Single : List plain.Name → Stand → Result Node CompileFault → Type 0
Single names p (Ok n) = (e : Expr) × (t : Tree) × (leaf p.token ≡ some e) × (resolved names e ≡ some t) × One n t
Single names p (Err f) = ((number f ≡ 55) × (place f ≡ p.place) × (starts_atom p.token ≡ false))
    ⊎ ((number f ≡ 57) × (place f ≡ p.place) × ((x : plain.Name) × (p.token ≡ plain.name x)
    × (distance names x ≡ none)))
