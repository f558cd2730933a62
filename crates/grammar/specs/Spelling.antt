-- Which bytes spell which token.
--
--   name     a letter, then letters, digits and underscores, but for the eight keywords
--   number   one or more digits, perhaps with a minus directly before
--   signs    ->  =  <=  +  (  )
--   blanks   space, tab, line feed, carriage return
use Rattle.std.specs.Prelude.{ℕ, ◌+◌, ◌-◌, ◌*◌, Bool, true, false, cond, ◌&&◌, ◌||◌, List, [], ◌∷◌, ℤ, pos, negsuc}
use Rattle.std.specs.Prelude.{neg_ℤ, codes, ◌==◌, nat_le, nat_lt}
use Rattle.std.proofs.Math.Option.{Option, some, none}
use Rattle.grammar.specs.declared.Mark.TheVariants.{Fun, Let, In, If, Then, Else, True, False, Arrow, Equals, AtMost}
use Rattle.grammar.specs.declared.Mark.TheVariants.{Plus, Open, Close}
use Rattle.grammar.specs.Names.{same}
use Rattle.grammar.specs.Token.{Token, mark, name, numeral, end}

abbrev pub within : ℕ → ℕ → ℕ → Bool
within a b c = nat_le a c && nat_le c b

-- A to Z, a to z
abbrev pub letter : ℕ → Bool
letter c = within 65 90 c || within 97 122 c

-- 0 to 9
abbrev pub digit : ℕ → Bool
digit c = within 48 57 c

-- a letter, a digit or an underscore
abbrev pub word_byte : ℕ → Bool
word_byte c = letter c || (digit c || c == 95)

abbrev pub blank : ℕ → Bool
blank c = c == 32 || (c == 9 || (c == 10 || c == 13))

abbrev pub all : (ℕ → Bool) → List ℕ → Bool
all test [] = true
all test (c ∷ cs) = test c && all test cs

-- one or more digits
abbrev pub digits : List ℕ → Bool
digits [] = false
digits (c ∷ cs) = digit c && all digit cs

-- the number that digits spell, after those that came to n
abbrev pub decimal : ℕ → List ℕ → ℕ
decimal n [] = n
decimal n (c ∷ cs) = decimal (10 * n + (c - 48)) cs

abbrev pub number : ℕ → List ℕ → Option Token
number c cs =
    cond (digits (c ∷ cs)) (some (numeral (pos (decimal 0 (c ∷ cs))))) (cond (c == 45 && digits cs)
    (some (numeral (neg_ℤ (pos (decimal 0 cs))))) none)

abbrev pub word : List ℕ → Token
word w =
    cond (same w (codes "fun")) (mark Fun)
    (cond (same w (codes "let")) (mark Let)
    (cond (same w (codes "in")) (mark In)
    (cond (same w (codes "if")) (mark If)
    (cond (same w (codes "then")) (mark Then)
    (cond (same w (codes "else")) (mark Else)
    (cond (same w (codes "true")) (mark True)
    (cond (same w (codes "false")) (mark False) (name w))))))))

abbrev pub sign : List ℕ → Option Token
sign w =
    cond (same w (codes "->")) (some (mark Arrow))
    (cond (same w (codes "=")) (some (mark Equals))
    (cond (same w (codes "<=")) (some (mark AtMost))
    (cond (same w (codes "+")) (some (mark Plus))
    (cond (same w (codes "(")) (some (mark Open))
    (cond (same w (codes ")")) (some (mark Close)) none)))))

abbrev pub or_else : Option Token → Option Token → Option Token
or_else none other = other
or_else (some t) other = some t

-- the token that these bytes spell, if they spell one
abbrev pub token : List ℕ → Option Token
token [] = none
token (c ∷ cs) = cond (letter c) (cond (all word_byte cs) (some (word (c ∷ cs))) none)
    (or_else (number c cs) (sign (c ∷ cs)))

-- -2147483648 to 2147483647
abbrev pub in_range : ℤ → Bool
in_range (pos n) = nat_lt n 2147483648
in_range (negsuc n) = nat_lt n 2147483648

-- a number that is out of range is the only token that is not fit
abbrev pub fit : Token → Bool
fit (mark m) = true
fit (name x) = true
fit (numeral z) = in_range z
fit end = true
