-- What the answer of `amount` says of the number.
use Rattle.std.proofs.Common.{◌≡◌, ℕ, false, ℤ, is_some, Some, None, Option, arith}
use Rattle.grammar.specs.Spelling.{in_range}
use Rattle.lexer.specs.Amounts.{Amount}

pub amount_none : (z : ℤ) (r : Option ℤ) → Amount z r → is_some r ≡ false → in_range z ≡ false
amount_none z (Some k) h e = absurd (let w : ◌≡◌ {A = ℕ} 0 1 = cc in omega arith)
amount_none z None h e = h
