-- What stands in a store still stands once it has more lists.
use Rattle.std.proofs.Common.{◌≡◌, ◌≢◌, ℕ, zero, suc, List, [], ◌∷◌, length, Some, None, refl, ap, ◌∙◌}
use Rattle.store.specs.Lists.{Lists, Same}
use Rattle.store.proofs.Told.{some_none}
use Rattle.values.specs.declared.Value.{Value}
use Rattle.values.specs.declared.Value.TheVariants.{Number, Truth, Function}
use Rattle.reckoning.specs.Environments.{Env, empty, ◌before◌, size}
use Rattle.reckoning.specs.Environments as plain
use Rattle.reckoning.specs.Contexts.{Open}
use Rattle.machine.specs.declared.operation.Operation.{Operation}
use Rattle.machine.specs.declared.operation.Operation.TheVariants.{Argument, Applied, Bound, SumRight, SumLeft}
use Rattle.machine.specs.declared.operation.Operation.TheVariants.{CompareRight, CompareLeft, Condition}
use Rattle.machine.specs.Handles.{StandsFor, AllStandFor, IsListOf}
use Rattle.machine.specs.Opens.{OpenFor, Waits, op_at, Stacked}
use Rattle.machine.specs.Opens as opens
use Rattle.record.specs.Nodes.{node_at}
use Rattle.machine.specs.Places.{Rule}

-- each list stays
pub record Kept (lists lists' : Lists Value) : Type 0 where
  pub stays : (h : ℕ) (l : List Value) → lists h ≡ Some l → lists' h ≡ Some l

pub same_kept : (lists lists' : Lists Value) → Same lists lists' → Kept lists lists'
same_kept lists lists' same = record { stays = λ h l e. same h ∙ e }

pub others_kept : (lists lists' : Lists Value) (k : ℕ) → lists k ≡ None → ((h : ℕ) → (h ≢ k) → lists' h ≡ lists h)
    → Kept lists lists'
others_kept lists lists' k fresh others = record {
  stays = λ h l e. others h (λ same. some_none e (ap lists same
      ∙ fresh)) ∙ e;
}

pub all_length : (rule : Rule) (lists : Lists Value) (l : List Value) (env : Env) → AllStandFor rule lists l env
    → length l ≡ size env
all_length rule lists [] empty a = refl
all_length rule lists [] (v before env) a = absurd a
all_length rule lists (x ∷ l) empty a = absurd a
all_length rule lists (x ∷ l) (v before env) a = ap suc (all_length rule lists l env a.1)

module _ (rule : Rule) (lists lists' : Lists Value) (kept : Kept lists lists') where
  mutual
    pub value_kept : (x : Value) (v : plain.Value) → StandsFor rule lists x v → StandsFor rule lists' x v
    value_kept (Number j) (plain.number k) s = s
    value_kept (Number j) (plain.truth b) s = s
    value_kept (Number j) (plain.function n b env) s = s
    value_kept (Truth c) (plain.number k) s = s
    value_kept (Truth c) (plain.truth b) s = s
    value_kept (Truth c) (plain.function n b env) s = s
    value_kept (Function m h) (plain.number k) s = s
    value_kept (Function m h) (plain.truth b) s = s
    value_kept (Function m h) (plain.function n b env) s = (
      s.0,
      s.1,
      (
        s.2.0,
        kept.stays h s.2.0 s.2.1,
        all_kept s.2.0 env s.2.2,
      ),
    )

    pub all_kept : (l : List Value) (env : Env) → AllStandFor rule lists l env → AllStandFor rule lists' l env
    all_kept [] empty a = a
    all_kept [] (v before env) a = a
    all_kept (x ∷ l) empty a = a
    all_kept (x ∷ l) (v before env) a = (value_kept x v a.0, all_kept l env a.1)

  pub list_kept : (h : ℕ) (env : Env) → IsListOf rule lists h env → IsListOf rule lists' h env
  list_kept h env i = (i.0, kept.stays h i.0 i.1, all_kept i.0 env i.2)

  waits_kept : (p h n : ℕ) (t : _) (env : Env) → Waits rule lists p h n t env → Waits rule lists' p h n t env
  waits_kept p h n t env w = record { at = w.at; environment = list_kept h env w.environment; sized = w.sized }

  pub open_kept : (op : Operation) (o : Open) → OpenFor rule lists op o → OpenFor rule lists' op o
  open_kept (Argument n p h) o s = (s.0, s.1, s.2, waits_kept p h (opens.span (node_at rule.nodes n)) s.0 s.1 s.3)
  open_kept (Applied n x) o s = (s.0, s.1, value_kept x s.0 s.2)
  open_kept (Bound n p h) o s = (s.0, s.1, s.2, s.3, list_kept h s.1 s.4)
  open_kept (SumRight n p h) o s = (s.0, s.1, s.2, waits_kept p h (opens.span (node_at rule.nodes n)) s.0 s.1 s.3)
  open_kept (SumLeft n x) o s = (s.0, s.1, value_kept x s.0 s.2)
  open_kept (CompareRight n p h) o s = (s.0, s.1, s.2, waits_kept p h (opens.span (node_at rule.nodes n)) s.0 s.1 s.3)
  open_kept (CompareLeft n x) o s = (s.0, s.1, value_kept x s.0 s.2)
  open_kept (Condition n p q h) o s = (s.0, s.1, s.2, s.3, s.4, s.5, list_kept h s.2 s.6)

  pub stacked_kept : (ops : List Operation) (d : ℕ) (os : List Open) → Stacked rule lists ops d os
      → Stacked rule lists' ops d os
  stacked_kept ops zero [] s = s
  stacked_kept ops zero (o ∷ os) s = s
  stacked_kept ops (suc d) [] s = s
  stacked_kept ops (suc d) (o ∷ os) s = (open_kept (op_at ops d) o s.0, stacked_kept ops d os s.1)
