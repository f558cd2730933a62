-- When a term is stuck.
use Rattle.std.specs.Prelude.{false, ◌≡◌}
use Rattle.calculus.specs.Term.{Term}
use Rattle.calculus.specs.Rules.{◌⟶◌}
use Rattle.calculus.specs.Length.{over}

-- not over, and there is no reduction
abbrev pub IsStuck : Term → Type 0
IsStuck t = (over t ≡ false) × ((u : Term) → ¬ (t ⟶ u))
