-- When a stage is over, what it answers, and the length.
use Rattle.std.specs.Prelude.{Bool, true, false, ◌≡◌, ℤ, ℕ, ◌<◌}
use Rattle.std.proofs.Math.Option.{Option, none, some}
use Rattle.calculus.specs.Term.{Term}
use Rattle.calculus.specs.Step.{Next, rests, beyond, stuck, to, step}
use Rattle.calculus.specs.Stages.{stage}

-- over: a value, or a sum outside the number range is next
abbrev pub ends : Next → Bool
ends rests = true
ends (beyond n) = true
ends stuck = false
ends (to t) = false

abbrev pub over : Term → Bool
over t = ends (step t)

-- what a stage that is over answers: its number, its truth, the node of its function, or the node of the sum
pub data Answer : Type 0 where
  number : ℤ → Answer
  truth : Bool → Answer
  function : ℕ → Answer
  range : ℕ → Answer

abbrev pub value_answer : Term → Option Answer
value_answer (Term.number k) = some (number k)
value_answer (Term.truth b) = some (truth b)
value_answer (Term.variable d) = none
value_answer (Term.function n b) = some (function n)
value_answer (Term.application n f a) = none
value_answer (Term.let_in n e b) = none
value_answer (Term.sum n l r) = none
value_answer (Term.at_most n l r) = none
value_answer (Term.if_else n c t e) = none

abbrev pub told : Option Answer → Next → Option Answer
told v rests = v
told v (beyond n) = some (range n)
told v stuck = none
told v (to t) = none

abbrev pub answer : Term → Option Answer
answer t = told (value_answer t) (step t)

-- the number of the first stage that is over, t being stage 0
pub record Length (t : Term) (n : ℕ) : Type 0 where
  pub last : over (stage n t) ≡ true
  pub earlier : (m : ℕ) → m < n → over (stage m t) ≡ false
