-- The kinds of nodes, and the bytes that stand for them.
use Rattle.std.specs.Prelude.{◌≡◌, ℕ, ◌<◌, ◌⊎◌, true, false, Result, MatchResult}
use Rattle.syntax.specs.declared.kind.Kind.{Kind}
use Rattle.syntax.specs.declared.kind.Kind.TheVariants as kind
use Rattle.syntax.specs.declared.kind.UnknownKind.{UnknownKind}
use Rattle.syntax.specs.declared.node.Node.{Node}
use Rattle.syntax.specs.declared.node.Node.TheVariants.{Number, Truth, Variable, Reading, Function, Application}
use Rattle.syntax.specs.declared.node.Node.TheVariants.{LetIn, Sum, AtMost, IfElse}

-- the byte that a record announces a kind by
abbrev pub byte_of : Kind → ℕ
byte_of kind.Number = 1
byte_of kind.False = 2
byte_of kind.True = 3
byte_of kind.Variable = 4
byte_of kind.Function = 5
byte_of kind.Application = 6
byte_of kind.LetIn = 7
byte_of kind.Sum = 8
byte_of kind.AtMost = 9
byte_of kind.IfElse = 10

-- how many bytes belong to a node behind its kind byte
abbrev pub operands_of : Kind → ℕ
operands_of kind.Number = 4
operands_of kind.False = 0
operands_of kind.True = 0
operands_of kind.Variable = 2
operands_of kind.Function = 0
operands_of kind.Application = 0
operands_of kind.LetIn = 0
operands_of kind.Sum = 0
operands_of kind.AtMost = 0
operands_of kind.IfElse = 0

-- the kind with this byte, or the byte, which no kind has
abbrev pub Decodes : ℕ → Result Kind UnknownKind → Type 0
Decodes byte r = MatchResult r (λ k. byte_of k ≡ byte) (λ e. (e.0 ≡ byte) × ((byte ≡ 0) ⊎ (10 < byte)))

-- the kind that a node is announced as
abbrev pub kind_of : Node → Kind
kind_of (Number k) = kind.Number
kind_of (Truth false) = kind.False
kind_of (Truth true) = kind.True
kind_of (Variable d) = kind.Variable
kind_of (Reading j) = kind.Variable
kind_of (Function a) = kind.Function
kind_of (Application a b) = kind.Application
kind_of (LetIn a b) = kind.LetIn
kind_of (Sum a b) = kind.Sum
kind_of (AtMost a b) = kind.AtMost
kind_of (IfElse a b c) = kind.IfElse
