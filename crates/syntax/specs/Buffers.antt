-- What a call leaves in a buffer that it was lent.
use Rattle.std.specs.Prelude.{◌≡◌, ℕ, ◌≤◌, List, length, drop, Ok, Err, Result}

-- A success with n wrote the first n entries and left those behind them; a refusal left the whole buffer.
abbrev pub OnlyFront : {F : Type 0} → List ℕ → List ℕ → Result ℕ F → Type 0
OnlyFront before after (Ok n) = (n ≤ length after) × (drop n after ≡ drop n before)
OnlyFront before after (Err f) = after ≡ before
