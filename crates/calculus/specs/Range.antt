-- The range of whole numbers, and sums.
use Rattle.std.specs.Prelude.{Bool, cond, ◌&&◌, ℤ, pos, negsuc, ◌+ℤ◌}
use Rattle.std.specs.Int.Signed.{le_z}

-- the number range, −2147483648 .. 2147483647
abbrev pub in_range : ℤ → Bool
in_range k = le_z (negsuc 2147483647) k && le_z k (pos 2147483647)

-- the sum of two numbers: within the range, or out of it
pub data Sum : Type 0 where
  within : ℤ → Sum
  out_of_range : Sum

abbrev pub sum_of : ℤ → ℤ → Sum
sum_of i j = cond (in_range (i +ℤ j)) (within (i +ℤ j)) out_of_range
