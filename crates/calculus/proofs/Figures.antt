-- The worked figures, by computation.
use mathlib.Core.List.{List}
use mathlib.Core.Bool.{true}
use mathlib.Core.Option.{some}
use mathlib.Core.Path.{◌≡◌, refl, ◌∙◌, ap}
use lib.IntN.{ℤ}
use native.Mathlib.Omega.{arith}
use Prim.Native.Nat.{ℕ, zero, suc, ◌+◌}
use Rattle.syntax.specs.Tree.{Tree}
use Rattle.calculus.specs.Types.{Ty, int, bool, ◌⇒◌, unknown, RuleHas}
use Rattle.calculus.specs.Conditions.{Assignment, Meets, CannotMeet}
use Rattle.calculus.specs.General.{ComesFrom, MostGeneral}
use Rattle.calculus.specs.Stages.{start, stage}
use Rattle.calculus.specs.Length.{Answer, over, answer}
use Rattle.calculus.specs.Figures.{Gives, Figures, identity, itself, no_function}
use Rattle.calculus.proofs.Ending.{none_before, length_computed}

pub gives : (readings : List ℤ) (t : Tree) (n : ℕ) (a : Answer) →
    over (stage n (start readings t)) ≡ true → none_before n (start readings t) ≡ true
    → answer (stage n (start readings t)) ≡ some a → Gives readings t n a
gives readings t n a e f g = record { length = length_computed n (start readings t) e f; answers = g }

-- no type is its own side

size : Ty → ℕ
size int = 0
size bool = 0
size (p ⇒ s) = suc (size p + size s)
size (unknown k) = 0

size-⇒ : (p s : Ty) → size (p ⇒ s) ≡ suc (size p + size s)
unfolding size
size-⇒ p s = refl

no_itself : (τ : Ty) → ¬ RuleHas 0 itself τ
no_itself τ (p, s, e, (q, h, i)) =
    let same : q ≡ q ⇒ s = cc in
    omega (arith, ap size same ∙ size-⇒ q s)

no_no_function : (τ : Ty) → ¬ RuleHas 0 no_function τ
no_no_function τ (p, h, i) = let z : ◌≡◌ {A = ℕ} 0 1 = cc in omega arith

identity_comes : (σ : Ty) → RuleHas 0 identity σ → ComesFrom (unknown 0 ⇒ unknown 0) σ
identity_comes σ (p, s, e, h) = ((λ k. p), (cc))

identity_general : MostGeneral 0 identity (unknown 0 ⇒ unknown 0)
identity_general = record { is_type = (unknown 0, unknown 0, refl, refl); every_type = identity_comes }

itself_refused : CannotMeet 0 itself 3
itself_refused a (m₀, (m₁, m₂, m₃)) =
    let e₁ = m₁ (omega arith) in
    let e₂ = m₂ (omega arith) in
    let e₃ = m₃ (omega arith) in
    let same : a.type_of 2 ≡ a.type_of 2 ⇒ a.type_of 1 = cc in
    omega (arith, ap size same ∙ size-⇒ (a.type_of 2) (a.type_of 1))

no_function_refused : CannotMeet 0 no_function 1
no_function_refused a (m₀, m₁, m₂) =
    let e₀ = m₀ (omega arith) in
    let e₁ = m₁ (omega arith) in
    let z : ◌≡◌ {A = ℕ} 0 1 = cc in
    omega arith

-- for fun x -> x x: x, the function child, is int → int, and the argument, not yet asked, is int
itself_types : ℕ → Ty
itself_types zero = (int ⇒ int) ⇒ int
itself_types (suc zero) = int
itself_types (suc (suc zero)) = int ⇒ int
itself_types (suc (suc (suc n))) = int

itself_met : (a : Assignment) × Meets 0 itself 2 a
unfolding itself_types
itself_met = (
  record { type_of = itself_types; parameter_of = λ n. int ⇒ int },
  ((λ h. refl), ((λ h. refl), (λ h. refl), (λ h. absurd (omega arith)))),
)

pub figures : Figures
figures =
    record {
      heating_record = refl;
      heating_on = gives _ _ _ _ refl refl refl;
      heating_off = gives _ _ _ _ refl refl refl;
      thrice_seven = gives _ _ _ _ refl refl refl;
      identity_over = gives _ _ _ _ refl refl refl;
      identity_type = identity_general;
      identity_spelled = refl;
      first_appearance = refl;
      itself_type = no_itself;
      no_function_type = no_no_function;
      itself_met_to_2 = itself_met;
      itself_refused_at_3 = itself_refused;
      no_function_refused_at_1 = no_function_refused;
      sum_right_first = gives _ _ _ _ refl refl refl;
      compare_right_first = gives _ _ _ _ refl refl refl;
      argument_first = gives _ _ _ _ refl refl refl;
      left_second = gives _ _ _ _ refl refl refl;
      bound_first = gives _ _ _ _ refl refl refl;
      condition_first = gives _ _ _ _ refl refl refl;
      one_branch = gives _ _ _ _ refl refl refl;
      not_inside = gives _ _ _ _ refl refl refl;
      copy_keeps_number = gives _ _ _ _ refl refl refl;
      least_in = gives _ _ _ _ refl refl refl;
      below_least_out = gives _ _ _ _ refl refl refl;
      greatest_in = gives _ _ _ _ refl refl refl;
      above_greatest_out = gives _ _ _ _ refl refl refl;
      equal_at_most = gives _ _ _ _ refl refl refl;
      sign_at_most = gives _ _ _ _ refl refl refl;
    }
