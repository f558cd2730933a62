-- How much of the lent memory counts.
use Rattle.std.specs.Prelude.{ℕ, min}

-- no place beyond the first 65,535
abbrev pub counted : ℕ → ℕ
counted places = min 65535 places
