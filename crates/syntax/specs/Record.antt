-- The record of a tree: what a controller is sent.
use Rattle.std.specs.Prelude.{true, false, List, [], ◌∷◌, ◌++◌, ℤ, pos, negsuc, length, ℕ, ◌+◌, ◌-◌, ◌/◌, ◌%◌}
use Rattle.syntax.specs.Tree.{Tree, number, truth, variable, function, application, let_in, sum, at_most, if_else}

-- two bytes, the higher first
abbrev pub two_bytes : ℕ → List ℕ
two_bytes n = (n / 256 % 256) ∷ (n % 256) ∷ []

-- the two's complement of a number in 32 bits: a number below zero has 2^32 added to it. `negsuc n` is -1 - n.
abbrev pub complement : ℤ → ℕ
complement (pos n) = n
complement (negsuc n) = 4294967295 - n

-- the four bytes of a number's two's complement, the highest first
abbrev pub four_bytes : ℤ → List ℕ
four_bytes k = (complement k / 16777216 % 256) ∷ (complement k / 65536 % 256) ∷ (complement k / 256 % 256) ∷
    (complement k % 256) ∷ []

-- a node's kind byte with what follows it, then its children from left to right
abbrev pub encode : Tree → List ℕ
encode (number k) = 1 ∷ four_bytes k
encode (truth false) = 2 ∷ []
encode (truth true) = 3 ∷ []
encode (variable d) = 4 ∷ two_bytes d
encode (function b) = 5 ∷ encode b
encode (application f a) = 6 ∷ (encode f ++ encode a)
encode (let_in e b) = 7 ∷ (encode e ++ encode b)
encode (sum l r) = 8 ∷ (encode l ++ encode r)
encode (at_most l r) = 9 ∷ (encode l ++ encode r)
encode (if_else c t e) = 10 ∷ (encode c ++ (encode t ++ encode e))

-- the count of all bytes after these two, the version 1, the count of readings, the tree
abbrev pub record_of : ℕ → Tree → List ℕ
record_of readings t = two_bytes (2 + length (encode t)) ++ (1 ∷ readings ∷ encode t)
