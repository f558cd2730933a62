-- The number range is said three times: of the numbers in a text, of those in a record, and of those in a stage. It is
-- one range.
use Rattle.std.specs.Prelude.{◌≡◌, ◌↔◌, true, ℤ, FitsSigned}
use Rattle.std.specs.Int.{w32}
use Rattle.grammar.specs.Spelling as text
use Rattle.calculus.specs.Range as stage

pub record OneRange : Type 0 where
  pub texts_as_stages : (k : ℤ) → text.in_range k ≡ stage.in_range k
  pub records_as_stages : (k : ℤ) → FitsSigned w32 k ↔ (stage.in_range k ≡ true)
