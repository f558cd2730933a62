-- What the tokens of the code stand for.
use Rattle.std.specs.Prelude.{◌≡◌, ℕ, ◌+◌, ◌<◌, Bool, true, false, cond, List, [], ◌∷◌, length, ℤ, pos, neg_ℤ, Ok}
use Rattle.std.specs.Prelude.{Err, Result, ◌==◌, ◌≢◌, slice_index}
use Rattle.std.proofs.Math.Option.{Option, some, none}
use Rattle.grammar.specs.Token.{mark, name, numeral, end}
use Rattle.grammar.specs.Token as plain
use Rattle.grammar.specs.Spelling.{decimal, fit}
use Rattle.grammar.specs.Walking.{Unread, is_name}
use Rattle.grammar.specs.Reading.{part, Next, NoNext, NoneBeyond, Longest}
use Rattle.lexer.specs.declared.fault.LexFault.{LexFault}
use Rattle.lexer.specs.declared.fault.LexFault.TheVariants.{NoToken}
use Rattle.lexer.specs.Faults.{number, place}
use Rattle.lexer.specs.declared.token.Token.{Token}
use Rattle.lexer.specs.declared.token.Token.TheVariants.{Mark, Name, Number, End}
use Rattle.lexer.specs.declared.token.Placed.{Placed}

-- the number that digits spell, perhaps with a minus before
abbrev pub value : List ℕ → ℤ
value [] = pos 0
value (c ∷ cs) = cond (c == 45) (neg_ℤ (pos (decimal 0 cs))) (pos (decimal 0 (c ∷ cs)))

abbrev pub shown : Token → plain.Token
shown (Mark m) = mark m
shown (Name x) = name x.now
shown (Number x) = numeral (value x.now)
shown End = end

-- names and numbers are parts of the text itself: these bytes of it
abbrev pub Spelled : List ℕ → Token → Type 0
Spelled bytes (Mark m) = Unit {0}
Spelled bytes (Name x) = x.now ≡ bytes
Spelled bytes (Number x) = x.now ≡ bytes
Spelled bytes End = Unit {0}

-- whether the byte after a place is this one
abbrev pub Followed : List ℕ → ℕ → ℕ → Bool → Type 0
Followed s place c true = (place + 1 < length s) × (slice_index s (place + 1) ≡ c)
Followed s place c false = place + 1 < length s → slice_index s (place + 1) ≢ c

-- the longest token at a place, or that none begins there
abbrev pub TokenAt : List ℕ → ℕ → Result Placed LexFault → Type 0
TokenAt s place (Ok p) = (p.place ≡ place) × Longest s place p.stop (shown p.token)
    × Spelled (part s place p.stop) p.token
TokenAt s place (Err f) = (f ≡ NoToken place) × NoneBeyond s place place

-- the next token after `from`, or the place where none begins
abbrev pub Scans : List ℕ → ℕ → Result Placed LexFault → Type 0
Scans s from (Ok p) = Next s from (shown p.token) p.place p.stop × Spelled (part s p.place p.stop) p.token
Scans s from (Err f) = (f ≡ NoToken (place f)) × NoNext s from (place f)

-- the next token after `from`, in range, or why it is refused
abbrev pub Lexes : List ℕ → ℕ → Result Placed LexFault → Type 0
Lexes s from (Ok p) = Next s from (shown p.token) p.place p.stop × (fit (shown p.token) ≡ true)
    × Spelled (part s p.place p.stop) p.token
Lexes s from (Err f) = Unread s from (number f) (place f)

-- whether a token, if there is one, is a name
abbrev pub named : Option plain.Token → Bool
named none = false
named (some t) = is_name t
