-- What is proved of the grammar and of verdicts.
use Rattle.std.specs.Prelude.{◌≡◌, ℕ, List}
use Rattle.grammar.specs.Token.{Name, Token}
use Rattle.grammar.specs.Grammar.{Expr, Derives, expr}
use Rattle.grammar.specs.Verdict.{Outcome, Verdict}

-- a token list has at most one tree
abbrev pub OneTree : Type 0
OneTree = (ts : List Token) (e f : Expr) → Derives expr ts e → Derives expr ts f → e ≡ f

-- a text has at most one verdict: one refusal with its number and place, or one record
abbrev pub OneVerdict : Type 0
OneVerdict = (book : List Name) (s : List ℕ) (room : ℕ) (o o' : Outcome) → Verdict book s room o
    → Verdict book s room o' → o ≡ o'
