-- The number and the place of each refusal.
use Rattle.std.specs.Prelude.{ℕ}
use Rattle.lexer.specs.declared.fault.LexFault.TheVariants.{NoToken, OutOfRange}
use Rattle.text.specs.declared.fault.CompileFault.{CompileFault}
use Rattle.text.specs.declared.fault.CompileFault.TheVariants.{TooLong, Lex, Unexpected, Unknown, TooManyNodes, NoRoom}

abbrev pub number : CompileFault → ℕ
number TooLong = 51
number (Lex (NoToken p)) = 52
number (Lex (OutOfRange p)) = 54
number (Unexpected p) = 55
number (Unknown p) = 57
number TooManyNodes = 58
number NoRoom = 59

abbrev pub place : CompileFault → ℕ
place TooLong = 0
place (Lex (NoToken p)) = p
place (Lex (OutOfRange p)) = p
place (Unexpected p) = p
place (Unknown p) = p
place TooManyNodes = 0
place NoRoom = 0
