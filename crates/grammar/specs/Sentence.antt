-- Sentences, and what begins one.
use Rattle.std.specs.Prelude.{◌≡◌, List, [], ◌∷◌, ◌++◌}
use Rattle.std.proofs.Math.Option.{some}
use Rattle.syntax.specs.Tree.{Tree}
use Rattle.grammar.specs.Token.{Name, Token, end}
use Rattle.grammar.specs.Grammar.{Expr, Derives, expr}
use Rattle.grammar.specs.Names.{resolved}

-- a sentence is an expression and then the end
abbrev pub Sentence : List Token → Expr → Type 0
Sentence ts e = (a : List Token) × (ts ≡ a ++ end ∷ []) × Derives expr a e

-- some continuation is a sentence
abbrev pub Begins : List Token → Type 0
Begins ts = (rest : List Token) × (e : Expr) × Sentence (ts ++ rest) e

-- some continuation is a sentence whose used names are all in force
abbrev pub BeginsBound : List Name → List Token → Type 0
BeginsBound names ts = (rest : List Token) × (e : Expr) × (t : Tree) × Sentence (ts ++ rest) e
    × (resolved names e ≡ some t)
