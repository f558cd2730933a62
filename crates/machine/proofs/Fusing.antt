-- Operands that are worked out at once.
use Rattle.std.proofs.Common.{◌≡◌, ◌≢◌, ℕ, ℤ, Bool, ◌⊎◌, inl, inr, Some, refl, sym, ap, ◌∙◌, subst}
use Rattle.syntax.specs.declared.node.Node.{Node}
use Rattle.syntax.specs.declared.node.Node.TheVariants as node
use Rattle.store.specs.Lists.{Lists}
use Rattle.values.specs.declared.Value.{Value}
use Rattle.values.specs.declared.Value.TheVariants.{Number, Truth, Function}
use Rattle.record.specs.Nodes.{node_at}
use Rattle.calculus.specs.Term.{Term}
use Rattle.reckoning.specs.Environments.{Env, size}
use Rattle.reckoning.specs.Environments as plain
use Rattle.reckoning.specs.Work.{Work, met}
use Rattle.reckoning.specs.Moves.{move, stuck}
use Rattle.machine.specs.declared.operations.Operations.{Operations}
use Rattle.machine.specs.Places.{Rule, At, BodyOf}
use Rattle.machine.specs.Handles.{IsListOf}
use Rattle.machine.specs.Opens.{IsOperation, IsOfNumbers}
use Rattle.machine.specs.Leaves.{AtOnce, GoesOn}
use Rattle.machine.specs.Standing.{Meets}
use Rattle.machine.proofs.Placing.{shape, at_inside}

-- a node of none of the kinds of leaves
pub is_operation : (n : Node) → ((k : ℤ) → n ≡ node.Number k → ⊥) → ((b : Bool) → n ≡ node.Truth b → ⊥)
    → ((d : ℕ) → n ≡ node.Variable d → ⊥) → ((j : ℕ) → n ≡ node.Reading j → ⊥) →
    ((b : ℕ) → n ≡ node.Function b → ⊥) → IsOperation n
is_operation (node.Number k) not_number not_truth not_variable not_reading not_function = absurd (not_number k refl)
is_operation (node.Truth b) not_number not_truth not_variable not_reading not_function = absurd (not_truth b refl)
is_operation (node.Variable d) not_number not_truth not_variable not_reading not_function = absurd (not_variable d refl)
is_operation (node.Reading j) not_number not_truth not_variable not_reading not_function = absurd (not_reading j refl)
is_operation (node.Function b) not_number not_truth not_variable not_reading not_function = absurd (not_function b refl)
is_operation (node.Application f a) not_number not_truth not_variable not_reading not_function = tt
is_operation (node.LetIn e b) not_number not_truth not_variable not_reading not_function = tt
is_operation (node.Sum l r) not_number not_truth not_variable not_reading not_function = tt
is_operation (node.AtMost l r) not_number not_truth not_variable not_reading not_function = tt
is_operation (node.IfElse c t e) not_number not_truth not_variable not_reading not_function = tt

-- an operation of none of the other kinds
pub is_of_numbers : (n : Node) → IsOperation n → ((f a : ℕ) → n ≡ node.Application f a → ⊥)
    → ((e b : ℕ) → n ≡ node.LetIn e b → ⊥) →
    ((c t e : ℕ) → n ≡ node.IfElse c t e → ⊥) → IsOfNumbers n
is_of_numbers (node.Number k) o not_application not_let not_if = absurd o
is_of_numbers (node.Truth b) o not_application not_let not_if = absurd o
is_of_numbers (node.Variable d) o not_application not_let not_if = absurd o
is_of_numbers (node.Reading j) o not_application not_let not_if = absurd o
is_of_numbers (node.Function b) o not_application not_let not_if = absurd o
is_of_numbers (node.Application f a) o not_application not_let not_if = absurd (not_application f a refl)
is_of_numbers (node.LetIn e b) o not_application not_let not_if = absurd (not_let e b refl)
is_of_numbers (node.Sum l r) o not_application not_let not_if = tt
is_of_numbers (node.AtMost l r) o not_application not_let not_if = tt
is_of_numbers (node.IfElse c t e) o not_application not_let not_if = absurd (not_if c t e refl)

-- a leaf is no operation
pub no_operation : (n : Node) → ((k : ℤ) × (n ≡ node.Number k)) ⊎ (((b : Bool) × (n ≡ node.Truth b))
    ⊎ (((d : ℕ) × (n ≡ node.Variable d)) ⊎ (((j : ℕ) × (n ≡ node.Reading j)) ⊎ ((b : ℕ) × (n ≡ node.Function b))))) →
    IsOperation n → ⊥
no_operation n (inl e) o = subst IsOperation e.1 o
no_operation n (inr (inl e)) o = subst IsOperation e.1 o
no_operation n (inr (inr (inl e))) o = subst IsOperation e.1 o
no_operation n (inr (inr (inr (inl e)))) o = subst IsOperation e.1 o
no_operation n (inr (inr (inr (inr e)))) o = subst IsOperation e.1 o

module _ (rule : Rule) (lists : Lists Value) (p h : ℕ) (t : Term) (env : Env) (a : At rule (size env) p t)
    (i : IsListOf rule lists h env) where
  pub number_at_once : (x : _) → node.Number x ≡ node_at rule.nodes p → AtOnce rule lists t env (Some (Number x))
  number_at_once x e = (plain.number x, ap (λ y. met y env) (shape rule _ p t (node.Number x) a e), refl)

  pub truth_at_once : (b : _) → node.Truth b ≡ node_at rule.nodes p → AtOnce rule lists t env (Some (Truth b))
  truth_at_once b e = (plain.truth b, ap (λ y. met y env) (shape rule _ p t (node.Truth b) a e), refl)

  pub function_at_once : (b : ℕ) → node.Function b ≡ node_at rule.nodes p
      → AtOnce rule lists t env (Some (Function p h))
  function_at_once b e =
      let s = shape rule _ p t (node.Function b) a e in
      let body : BodyOf rule (size env) p s.0 = record {
        place = b;
        inside = at_inside rule _ p t a;
        node =
            sym e;
        body = s.2;
      } in
      (plain.function p s.0 env, ap (λ y. met y env) s.1, (refl, body, i))

module _ (rule : Rule) (lists : Lists Value) where
  -- a node that is met within a work that goes on
  pub met_goes_on : (table : Operations) (p h : ℕ) (w : Work) → Meets rule lists table p h w → (move w ≢ stuck)
      → GoesOn rule lists p h
  met_goes_on table p h w m not =
      record {
        opens = m.opens;
        term = m.term;
        env = m.env;
        at = m.at;
        environment = m.environment;
        goes_on = λ s. not (ap (λ y. move y) (sym m.whole) ∙ s);
      }
