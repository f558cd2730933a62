-- The two's complement of `specs/Record` is the library's.
use Rattle.std.proofs.Common.{◌≡◌, ℕ, suc, ◌-◌, ◌/◌, ◌%◌, List, [], ◌∷◌, ℤ, pos, negsuc, refl, ap, w32, of_z, arith}
use Rattle.syntax.specs.Record.{complement, four_bytes}

pub complement_is : (k : ℤ) → of_z w32 k ≡ complement k
complement_is (pos n) = refl
complement_is (negsuc n) = let e : 4294967296 - suc n ≡ 4294967295 - n = omega arith in e

-- the bytes of a number in 32 bits, the highest first
abbrev pub bytes_of : ℕ → List ℕ
bytes_of n = (n / 16777216 % 256) ∷ (n / 65536 % 256) ∷ (n / 256 % 256) ∷ (n % 256) ∷ []

pub four_bytes_are : (k : ℤ) → bytes_of (of_z w32 k) ≡ four_bytes k
four_bytes_are k = ap bytes_of (complement_is k)
