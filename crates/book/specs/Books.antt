-- What a names book holds, and which names it takes.
use Rattle.std.specs.Prelude.{◌≡◌, ℕ, Bool, true, false, ◌&&◌, List, [], ◌∷◌, ◌++◌, map, length, Some, None, Ok, Err}
use Rattle.std.specs.Prelude.{Option, Result, nat_le, nat_lt}
use Rattle.std.proofs.Math.Option.{some, none}
use Rattle.std.proofs.Math.Option as Lookup
use Rattle.grammar.specs.Names.{distance}
use Rattle.grammar.specs.Spelling.{token}
use Rattle.lexer.specs.Shown.{named}
use Rattle.grammar.specs.Token as plain
use Rattle.book.specs.declared.fault.NameFault.{NameFault}
use Rattle.book.specs.declared.fault.NameFault.TheVariants.{Full, NoName, TooLong, Taken}
use Rattle.book.specs.declared.book.Book.{Book}
use Rattle.book.specs.Spelled.{spelled}

-- the names in a book, the first for reading 0
abbrev pub names : Book → List plain.Name
names b = map spelled b.names.items

-- how far down a list a name stands first
abbrev pub Found : List plain.Name → plain.Name → Option ℕ → Type 0
Found xs x (Some d) = distance xs x ≡ some d
Found xs x None = distance xs x ≡ none

abbrev pub absent : Lookup.Option ℕ → Bool
absent none = true
absent (some d) = false

-- a book takes a name of at most 32 bytes that is new to it, while it has fewer than 8
abbrev pub takes : List plain.Name → plain.Name → Bool
takes xs x = named (token x) && (nat_le (length x) 32 && (nat_lt (length xs) 8 && absent (distance xs x)))

-- why it does not take it, asked in this order
abbrev pub Why : List plain.Name → plain.Name → NameFault → Type 0
Why xs x Full = nat_lt (length xs) 8 ≡ false
Why xs x NoName = (nat_lt (length xs) 8 ≡ true) × (named (token x) ≡ false)
Why xs x TooLong = (nat_lt (length xs) 8 ≡ true) × (named (token x) ≡ true) × (nat_le (length x) 32 ≡ false)
Why xs x Taken = (nat_lt (length xs) 8 ≡ true) × (named (token x) ≡ true) × (nat_le (length x) 32 ≡ true)
    × (absent (distance xs x) ≡ false)

-- a name that was taken stands last; any other leaves the book
abbrev pub Added : List plain.Name → List plain.Name → plain.Name → Result (Unit {0}) NameFault → Type 0
Added before after x (Ok u) = (takes before x ≡ true) × (after ≡ before ++ x ∷ [])
Added before after x (Err f) = Why before x f × (after ≡ before)
