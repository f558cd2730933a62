-- What is proved of every rule.
use Rattle.std.specs.Prelude.{true, List, [], ◌↔◌, ◌≡◌, ℤ, length, ℕ}
use Rattle.syntax.specs.Tree.{Tree, nodes}
use Rattle.calculus.specs.Term.{Term, numbered}
use Rattle.calculus.specs.Substitution.{Closed}
use Rattle.calculus.specs.Values.{is_value}
use Rattle.calculus.specs.Types.{Ty, Has, RuleHas, Belongs}
use Rattle.calculus.specs.Conditions.{Assignment, Meets, CannotMeet}
use Rattle.calculus.specs.General.{ComesFrom, MostGeneral, spelling}
use Rattle.calculus.specs.Rules.{◌⟶◌, Leaves}
use Rattle.calculus.specs.Step.{rests, beyond, stuck, to, step}
use Rattle.calculus.specs.Stages.{start, stage}
use Rattle.calculus.specs.Length.{Length}
use Rattle.calculus.specs.Stuck.{IsStuck}

-- no stage of a typed rule is stuck, whatever is read
abbrev pub NeverStuck : Type 0
NeverStuck = (t : Tree) (τ : Ty) (readings : List ℤ) → RuleHas (length readings) t τ → (n : ℕ)
    → ¬ IsStuck (stage n (start readings t))

-- in a typed rule all variables are bound: each distance is below the binders around it and the readings
abbrev pub TypedIsClosed : Type 0
TypedIsClosed = (r : ℕ) (t : Tree) (τ : Ty) → RuleHas r t τ → Closed r (numbered 0 t)

-- putting readings in keeps every type, and so does each reduction
pub record KeepsTypes : Type 0 where
  pub at_start : (t : Tree) (τ : Ty) (readings : List ℤ) → RuleHas (length readings) t τ → Has [] (start readings t) τ
  pub at_step : (t u : Term) (τ : Ty) → Has [] t τ → t ⟶ u → Has [] u τ

-- every typed rule has a length, whatever is read, and one only
pub record HasLength : Type 0 where
  pub some_length : (t : Tree) (τ : Ty) (readings : List ℤ) → RuleHas (length readings) t τ → (n : ℕ)
      × Length (start readings t) n
  pub one_length : (t : Term) (m n : ℕ) → Length t m → Length t n → m ≡ n

-- a stage at rest is a value, and belongs to every type of its rule
abbrev pub ValueBelongs : Type 0
ValueBelongs =
    (t : Tree) (τ : Ty) (readings : List ℤ) →
    RuleHas (length readings) t τ →
    (n : ℕ) →
    step (stage n (start readings t)) ≡ rests →
    Belongs (stage n (start readings t)) τ

-- stages are determined: what comes next is what the rules say, and they never say two things
pub record Determined : Type 0 where
  pub reduces : (t u : Term) → (t ⟶ u) ↔ (step t ≡ to u)
  pub leaves : (t : Term) (n : ℕ) → Leaves t n ↔ (step t ≡ beyond n)
  pub at_rest : (t : Term) → (is_value t ≡ true) ↔ (step t ≡ rests)
  pub no_way : (t : Term) → IsStuck t ↔ (step t ≡ stuck)
  pub one_way : (t u v : Term) → t ⟶ u → t ⟶ v → u ≡ v

-- A rule has a type exactly when its nodes can be given types that meet all conditions, with this type at node 0.
-- So a rule whose conditions cannot be met up to some node has none.
pub record TypedByConditions : Type 0 where
  pub both_ways :
      (r : ℕ) (t : Tree) (τ : Ty) → RuleHas r t τ ↔ ((a : Assignment) × (a.type_of 0 ≡ τ) × Meets r t (nodes t) a)
  pub none_without : (r : ℕ) (t : Tree) (k : ℕ) → CannotMeet r t k → (τ : Ty) → ¬ RuleHas r t τ

-- What comes from a type of a rule, by putting types for unknowns, is a type of it. And two rules with most general
-- types spell these alike exactly when they have the same types.
pub record SpellingTells : Type 0 where
  pub what_comes : (r : ℕ) (t : Tree) (τ σ : Ty) → RuleHas r t τ → ComesFrom τ σ → RuleHas r t σ
  pub spelled_alike :
      (r q : ℕ) (t u : Tree) (μ ν : Ty) →
      MostGeneral r t μ →
      MostGeneral q u ν →
      (spelling μ ≡ spelling ν) ↔ ((σ : Ty) → RuleHas r t σ ↔ RuleHas q u σ)

-- every rule that has a type has a most general one
abbrev pub HasGeneralType : Type 0
HasGeneralType = (r : ℕ) (t : Tree) (τ : Ty) → RuleHas r t τ → (μ : Ty) × MostGeneral r t μ
