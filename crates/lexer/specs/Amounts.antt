-- Numbers in range.
use Rattle.std.specs.Prelude.{◌≡◌, true, false, ℤ, Some, None, Option}
use Rattle.grammar.specs.Spelling.{in_range}

-- the number itself where it is in range
abbrev pub Amount : ℤ → Option ℤ → Type 0
Amount z (Some k) = (in_range z ≡ true) × (k ≡ z)
Amount z None = in_range z ≡ false
