-- What a copied name spells.
use Rattle.std.specs.Prelude.{◌≡◌, ℕ, ◌<◌, ◌≤◌, List, length, Ok, Err, Result}
use Rattle.grammar.specs.Token as plain
use Rattle.book.specs.declared.fault.NameFault.{NameFault}
use Rattle.book.specs.declared.fault.NameFault.TheVariants.{TooLong}
use Rattle.book.specs.declared.name.Name.{Name}

abbrev pub spelled : Name → plain.Name
spelled n = n.bytes.items

-- names of at most 32 bytes are copied, and no others
abbrev pub Copied : List ℕ → Result Name NameFault → Type 0
Copied x (Ok n) = (spelled n ≡ x) × (length x ≤ 32)
Copied x (Err f) = (32 < length x) × (f ≡ TooLong)
