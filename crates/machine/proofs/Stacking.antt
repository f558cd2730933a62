-- Tables of operations that grow and shrink.
use Rattle.std.proofs.Common.{◌≡◌, ℕ, zero, suc, ◌+◌, ◌-◌, ◌<◌, List, [], ◌∷◌, length, refl, sym, ap, subst, arith}
use Rattle.syntax.specs.declared.node.Node.{Node}
use Rattle.store.specs.Lists.{Lists}
use Rattle.values.specs.declared.Value.{Value}
use Rattle.reckoning.specs.Contexts.{Open}
use Rattle.machine.specs.declared.operation.Operation.{Operation}
use Rattle.machine.specs.Opens.{OpenFor, op_at, Stacked, weight, weighed, Topped}
use Rattle.machine.specs.Places.{Rule}

pub stacked_same : (rule : Rule) (lists : Lists Value) (ops ops' : List Operation) (d : ℕ) (os : List Open)
    → ((i : ℕ) → i < d → op_at ops' i ≡ op_at ops i) →
    Stacked rule lists ops d os → Stacked rule lists ops' d os
stacked_same rule lists ops ops' zero [] same s = s
stacked_same rule lists ops ops' zero (o ∷ os) same s = s
stacked_same rule lists ops ops' (suc d) [] same s = s
stacked_same rule lists ops ops' (suc d) (o ∷ os) same s = (
  subst (λ x. OpenFor rule lists x o) (sym (same d (omega arith))) s.0,
  stacked_same rule lists ops ops' d os
      (λ i h. same i (omega arith)) s.1,
)

pub weighed_same : (ns : List Node) (ops ops' : List Operation) (d : ℕ)
    → ((i : ℕ) → i < d → op_at ops' i ≡ op_at ops i) → weighed ns ops' d ≡ weighed ns ops d
weighed_same ns ops ops' zero same = refl
weighed_same ns ops ops' (suc d) same =
    let here : weight ns (op_at ops' d) ≡ weight ns (op_at ops d) = ap (λ x. weight ns x) (same d (omega arith)) in
    let below = weighed_same ns ops ops' d (λ i h. same i (omega arith)) in
    omega arith

-- an operation more
pub stacked_more : (rule : Rule) (lists : Lists Value) (ops ops' : List Operation) (d e : ℕ) (op : Operation)
    (o : Open) (os : List Open) → Topped ops ops' d op → e ≡ suc d →
    OpenFor rule lists op o → Stacked rule lists ops d os → Stacked rule lists ops' e (o ∷ os)
stacked_more rule lists ops ops' d e op o os t n h s =
    subst (λ x. Stacked rule lists ops' x (o ∷ os)) (sym n)
    (subst (λ x. OpenFor rule lists x o) (sym t.top) h, stacked_same rule lists ops ops' d os t.below s)

pub weighed_more : (ns : List Node) (ops ops' : List Operation) (d e : ℕ) (op : Operation) → Topped ops ops' d op
    → e ≡ suc d → weighed ns ops' e ≡ weight ns op + weighed ns ops d
weighed_more ns ops ops' d e op t n =
    let last : weighed ns ops' e ≡ weighed ns ops' (suc d) = ap (λ x. weighed ns ops' x) n in
    let here : weight ns (op_at ops' d) ≡ weight ns op = ap (λ x. weight ns x) t.top in
    let below = weighed_same ns ops ops' d t.below in
    omega arith

pub stacked_length : (rule : Rule) (lists : Lists Value) (ops : List Operation) (d : ℕ) (os : List Open)
    → Stacked rule lists ops d os → length os ≡ d
stacked_length rule lists ops zero [] s = refl
stacked_length rule lists ops zero (o ∷ os) s = absurd s
stacked_length rule lists ops (suc d) [] s = absurd s
stacked_length rule lists ops (suc d) (o ∷ os) s = ap suc (stacked_length rule lists ops d os s.1)

-- the innermost operation, and those around it
pub record Top (rule : Rule) (lists : Lists Value) (ops : List Operation) (d : ℕ) (os : List Open) : Type 0 where
  pub first : Open
  pub rest : List Open
  pub is : os ≡ first ∷ rest
  pub deep : d ≡ suc (d - 1)
  pub open_for : OpenFor rule lists (op_at ops (d - 1)) first
  pub stacked : Stacked rule lists ops (d - 1) rest
  pub weight_is : weighed rule.nodes ops d ≡ weight rule.nodes (op_at ops (d - 1)) + weighed rule.nodes ops (d - 1)

pub top_of : (rule : Rule) (lists : Lists Value) (ops : List Operation) (d : ℕ) (os : List Open) → 0 < d
    → Stacked rule lists ops d os → Top rule lists ops d os
top_of rule lists ops zero os h s = absurd (omega arith)
top_of rule lists ops (suc d) [] h s = absurd s
top_of rule lists ops (suc d) (o ∷ os) h s =
    let e : d ≡ suc d - 1 = omega arith in
    record {
      first = o;
      rest = os;
      is = refl;
      deep = omega arith;
      open_for = subst (λ i. OpenFor rule lists (op_at ops i) o) e s.0;
      stacked = subst (λ i. Stacked rule lists ops i os) e s.1;
      weight_is = ap (λ i. weight rule.nodes (op_at ops i) + weighed rule.nodes ops i) e;
    }
