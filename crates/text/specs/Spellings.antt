-- How a name is spelled.
use Rattle.std.specs.Prelude.{ℕ, ◌+◌, ◌*◌, ◌%◌, ◌^◌, List, [], Some, None, Option, fold}
use Rattle.std.specs.Borrow.{Bor}
use Rattle.grammar.specs.Token.{Name}

-- its bytes; a blank one has none
abbrev pub bytes_of : Option (Bor (List ℕ)) → Name
bytes_of (Some name) = name.now
bytes_of None = []

-- the hash of a name that goes on with this byte
abbrev pub hash_on : ℕ → ℕ → ℕ
hash_on hash byte = 257 * (hash % 2 ^ 55) + byte

-- a number that equal names have in common
abbrev pub hash_of : Name → ℕ
hash_of x = fold hash_on 0 x
