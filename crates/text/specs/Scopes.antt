-- Which names are open.
use Rattle.std.specs.Prelude.{◌≡◌, List, map, reverse}
use Rattle.grammar.specs.Token as plain
use Rattle.text.specs.Spellings.{bytes_of}
use Rattle.text.specs.declared.spelling.Spelling.{Spelling}
use Rattle.text.specs.declared.scope.Scope.{Scope}

-- the bytes of a name
abbrev pub spelled : Spelling → plain.Name
spelled x = bytes_of x.name

-- the names of a scope, the newest first
abbrev pub open_names : Scope → List plain.Name
open_names scope = map spelled (reverse scope.names.items)

-- the same names are open
abbrev pub Restored : Scope → Scope → Type 0
Restored before after = after.names.items ≡ before.names.items
