-- The number and the place of each refusal of the lexer.
use Rattle.std.specs.Prelude.{ℕ}
use Rattle.lexer.specs.declared.fault.LexFault.{LexFault}
use Rattle.lexer.specs.declared.fault.LexFault.TheVariants.{NoToken, OutOfRange}

abbrev pub number : LexFault → ℕ
number (NoToken p) = 52
number (OutOfRange p) = 54

abbrev pub place : LexFault → ℕ
place (NoToken p) = p
place (OutOfRange p) = p
