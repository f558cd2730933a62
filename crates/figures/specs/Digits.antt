-- Bytes as digits in base 16.
use Rattle.std.specs.Prelude.{ℕ, ◌+◌, ◌-◌, ◌/◌, ◌%◌, if◌then◌else◌, nat_lt, List, [], ◌∷◌}

-- the digit of a number below 16: '0' to '9', then 'a' to 'f'
abbrev pub digit_of : ℕ → ℕ
digit_of n = if nat_lt n 10 then 48 + n else 97 + (n - 10)

-- two digits for each byte, the higher half first
abbrev pub shown : List ℕ → List ℕ
shown [] = []
shown (b ∷ bs) = digit_of (b / 16) ∷ digit_of (b % 16) ∷ shown bs
