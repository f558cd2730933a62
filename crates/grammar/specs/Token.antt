-- Tokens, as the grammar sees them.
use Rattle.std.specs.Prelude.{ℕ, Bool, false, List, ℤ, ◌==◌}
use Rattle.grammar.specs.declared.Mark.{Mark}
use Rattle.grammar.specs.declared.Mark.TheVariants.{Fun, Let, In, If, Then, Else, True, False, Arrow, Equals, AtMost}
use Rattle.grammar.specs.declared.Mark.TheVariants.{Plus, Open, Close}

-- a name by its bytes
abbrev pub Name : Type 0
Name = List ℕ

-- The end of the text counts as a token. A number stands with its value, in range or not.
pub data Token : Type 0 where
  mark : Mark → Token
  name : Name → Token
  numeral : ℤ → Token
  end : Token

-- the place of a mark in their order, to tell marks apart
abbrev pub ordinal : Mark → ℕ
ordinal Fun = 0
ordinal Let = 1
ordinal In = 2
ordinal If = 3
ordinal Then = 4
ordinal Else = 5
ordinal True = 6
ordinal False = 7
ordinal Arrow = 8
ordinal Equals = 9
ordinal AtMost = 10
ordinal Plus = 11
ordinal Open = 12
ordinal Close = 13

-- whether a token is a given mark
abbrev pub is : Mark → Token → Bool
is m (mark n) = ordinal m == ordinal n
is m (name x) = false
is m (numeral z) = false
is m end = false
