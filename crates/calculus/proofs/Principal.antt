-- Every rule that has a type has a most general one.
use mathlib.Core.Bool.{cond}
use mathlib.Core.List.{List, [], ◌∷◌, ◌++◌}
use mathlib.Core.Option.{Option, none, some}
use mathlib.Core.Path.{◌≡◌, refl, sym, ◌∙◌, ap, subst}
use borrow.Author.Tests.{eq-eqb, ne_eqb}
use lib.Dec.{eqb}
use lib.ListN.{replicate}
use native.Mathlib.Omega.{arith}
use Prim.Native.Nat.{ℕ, zero, suc, ◌+◌, ◌/◌, ◌%◌, ◌≤◌}
use Rattle.syntax.specs.Tree.{Tree, number, truth, variable, function, application, let_in, sum, at_most, if_else}
use Rattle.syntax.specs.Tree.{nodes}
use Rattle.calculus.specs.Types.{Ty, int, bool, ◌⇒◌, unknown, at}
use Rattle.calculus.specs.Conditions.{Assignment, Met, Meets}
use Rattle.calculus.specs.General.{put_types, MostGeneral}
use Rattle.calculus.specs.Laws.{HasGeneralType}
use Rattle.calculus.proofs.General.{put_all, at_put_all, put_all_readings}
use Rattle.calculus.proofs.Conditions.{Agree, met_agree, type_conditions, general_by_conditions}
use Rattle.calculus.proofs.Unification.{Equation, ◌≐◌, Solves, solves-++, solves_left, solves_right, Solution, solvable}

-- the conditions of a tree as equations: even unknowns for the types of nodes, odd ones for parameter types

abbrev pub node_type : ℕ → Ty
node_type i = unknown (i + i)

abbrev pub parameter_type : ℕ → Ty
parameter_type i = unknown (suc (i + i))

abbrev pub variable_equation : Option Ty → ℕ → Equation
variable_equation none i = int ≐ bool
variable_equation (some τ) i = τ ≐ node_type i

abbrev pub equations : List Ty → ℕ → Tree → List Equation
equations Γ i (number k) = (node_type i ≐ int) ∷ []
equations Γ i (truth b) = (node_type i ≐ bool) ∷ []
equations Γ i (variable d) = variable_equation (at Γ d) i ∷ []
equations Γ i (function b) = (node_type i ≐ (parameter_type i ⇒ node_type (i + 1))) ∷ equations (parameter_type i ∷ Γ)
    (i + 1) b
equations Γ i (application f x) =
    (node_type (i + 1) ≐ (node_type (i + (1 + nodes f)) ⇒ node_type i)) ∷ (equations Γ (i + 1) f ++ equations Γ
    (i + (1 + nodes f)) x)
equations Γ i (let_in e b) =
    (node_type i ≐ node_type (i + (1 + nodes e))) ∷ (equations Γ (i + 1) e ++ equations (node_type (i + 1) ∷ Γ)
    (i + (1 + nodes e)) b)
equations Γ i (sum l r) =
    (node_type i ≐ int) ∷ (node_type (i + 1) ≐ int) ∷ (node_type (i + (1 + nodes l)) ≐ int) ∷
    (equations Γ (i + 1) l ++ equations Γ (i + (1 + nodes l)) r)
equations Γ i (at_most l r) =
    (node_type i ≐ bool) ∷ (node_type (i + 1) ≐ int) ∷ (node_type (i + (1 + nodes l)) ≐ int) ∷
    (equations Γ (i + 1) l ++ equations Γ (i + (1 + nodes l)) r)
equations Γ i (if_else c t e) =
    (node_type (i + 1) ≐ bool) ∷ (node_type (i + (1 + nodes c)) ≐ node_type i) ∷
    (node_type (i + (1 + (nodes c + nodes t))) ≐ node_type i) ∷
    (equations Γ (i + 1) c ++ (equations Γ (i + (1 + nodes c)) t ++ equations Γ (i + (1 + (nodes c + nodes t))) e))

abbrev pub assigned : (ℕ → Ty) → Assignment
assigned θ = record { type_of = λ i. θ (i + i); parameter_of = λ i. θ (suc (i + i)) }

-- what solves the equations meets the conditions

solves_variable : (θ : ℕ → Ty) (Γ : List Ty) (i d : ℕ) (o : Option Ty) → at Γ d ≡ o
    → Solves θ (variable_equation o i ∷ []) → at (put_all θ Γ) d ≡ some (θ (i + i))
solves_variable θ Γ i d none e s = let f : int ≡ bool = s.0 in let z : ◌≡◌ {A = ℕ} 0 1 = cc in absurd (omega arith)
solves_variable θ Γ i d (some τ) e s = at_put_all θ Γ d τ e ∙ ap some s.0

pub solves_met : (θ : ℕ → Ty) (Γ : List Ty) (k i : ℕ) (t : Tree) → Solves θ (equations Γ i t)
    → Met (assigned θ) (put_all θ Γ) k i t
solves_met θ Γ k i (number n) s = λ q. s.0
solves_met θ Γ k i (truth b) s = λ q. s.0
solves_met θ Γ k i (variable d) s = λ q. solves_variable θ Γ i d (at Γ d) refl s
solves_met θ Γ k i (function b) s = ((λ q. s.0), solves_met θ (parameter_type i ∷ Γ) k (i + 1) b s.1)
solves_met θ Γ k i (application f x) s =
    let fs = equations Γ (i + 1) f in
    let xs = equations Γ (i + (1 + nodes f)) x in (
      (λ q. s.0),
      solves_met θ Γ k (i + 1) f (solves_left θ fs xs s.1),
      solves_met θ Γ k (i + (1 + nodes f)) x
          (solves_right θ fs xs s.1),
    )
solves_met θ Γ k i (let_in e b) s =
    let es = equations Γ (i + 1) e in
    let bs = equations (node_type (i + 1) ∷ Γ) (i + (1 + nodes e)) b in (
      (λ q. s.0),
      solves_met θ Γ k (i + 1) e (solves_left θ es bs s.1),
      solves_met θ (node_type (i + 1) ∷ Γ) k (i + (1 + nodes e)) b (solves_right θ es bs s.1),
    )
solves_met θ Γ k i (sum l r) s =
    let ls = equations Γ (i + 1) l in
    let rs = equations Γ (i + (1 + nodes l)) r in
    let rest = s.1.1.1 in (
      (λ q. (s.0, s.1.0, s.1.1.0)),
      solves_met θ Γ k (i + 1) l (solves_left θ ls rs rest),
      solves_met θ Γ k (i + (1 + nodes l)) r (solves_right θ ls rs rest),
    )
solves_met θ Γ k i (at_most l r) s =
    let ls = equations Γ (i + 1) l in
    let rs = equations Γ (i + (1 + nodes l)) r in
    let rest = s.1.1.1 in (
      (λ q. (s.0, s.1.0, s.1.1.0)),
      solves_met θ Γ k (i + 1) l (solves_left θ ls rs rest),
      solves_met θ Γ k (i + (1 + nodes l)) r (solves_right θ ls rs rest),
    )
solves_met θ Γ k i (if_else c t e) s =
    let cs = equations Γ (i + 1) c in
    let ts = equations Γ (i + (1 + nodes c)) t in
    let es = equations Γ (i + (1 + (nodes c + nodes t))) e in
    let rest = s.1.1.1 in
    let branches = solves_right θ cs (ts ++ es) rest in (
      (λ q. (s.0, s.1.0, s.1.1.0)),
      solves_met θ Γ k (i + 1) c (solves_left θ cs (ts ++ es) rest),
      solves_met θ Γ k (i + (1 + nodes c)) t (solves_left θ ts es branches),
      solves_met θ Γ k (i + (1 + (nodes c + nodes t))) e (solves_right θ ts es branches),
    )

-- what meets the conditions solves the equations

at_put_none : (θ : ℕ → Ty) (Γ : List Ty) (d : ℕ) → at Γ d ≡ none → at (put_all θ Γ) d ≡ none
at_put_none θ [] d e = refl
at_put_none θ (p ∷ Γ) zero e = let z : ◌≡◌ {A = ℕ} 0 1 = cc in absurd (omega arith)
at_put_none θ (p ∷ Γ) (suc d) e = at_put_none θ Γ d e

variable_solves : (θ : ℕ → Ty) (Γ : List Ty) (i d : ℕ) (o : Option Ty) → at Γ d ≡ o
    → at (put_all θ Γ) d ≡ some (θ (i + i)) → Solves θ (variable_equation o i ∷ [])
variable_solves θ Γ i d none e m = let f = at_put_none θ Γ d e in let z : ◌≡◌ {A = ℕ} 0 1 = cc in absurd (omega arith)
variable_solves θ Γ i d (some τ) e m = let f = at_put_all θ Γ d τ e in let g : put_types θ τ ≡ θ (i + i) = cc in (g, tt)

pub met_solves : (θ : ℕ → Ty) (Γ : List Ty) (k i : ℕ) (t : Tree) → i + nodes t ≤ suc k
    → Met (assigned θ) (put_all θ Γ) k i t → Solves θ (equations Γ i t)
met_solves θ Γ k i (number n) h m = (m (omega arith), tt)
met_solves θ Γ k i (truth b) h m = (m (omega arith), tt)
met_solves θ Γ k i (variable d) h m = variable_solves θ Γ i d (at Γ d) refl (m (omega arith))
met_solves θ Γ k i (function b) h m = (
  m.0 (omega arith),
  met_solves θ (parameter_type i ∷ Γ) k (i + 1) b
      (omega arith) m.1,
)
met_solves θ Γ k i (application f x) h m = (
  m.0 (omega arith),
  solves-++ θ (equations Γ (i + 1) f) (equations Γ (i + (1 + nodes f)) x)
      (met_solves θ Γ k (i + 1) f (omega arith) m.1) (met_solves θ Γ k (i + (1 + nodes f)) x (omega arith) m.2),
)
met_solves θ Γ k i (let_in e b) h m = (
  m.0 (omega arith),
  solves-++ θ (equations Γ (i + 1) e) (equations (node_type (i + 1) ∷ Γ) (i + (1 + nodes e)) b)
      (met_solves θ Γ k (i + 1) e (omega arith) m.1)
      (met_solves θ (node_type (i + 1) ∷ Γ) k (i + (1 + nodes e)) b (omega arith) m.2),
)
met_solves θ Γ k i (sum l r) h m =
    let own = m.0 (omega arith) in (
      own.0,
      (
        own.1,
        (
          own.2,
          solves-++ θ (equations Γ (i + 1) l) (equations Γ (i + (1 + nodes l)) r)
              (met_solves θ Γ k (i + 1) l (omega arith) m.1) (met_solves θ Γ k (i + (1 + nodes l)) r (omega arith) m.2),
        ),
      ),
    )
met_solves θ Γ k i (at_most l r) h m =
    let own = m.0 (omega arith) in (
      own.0,
      (
        own.1,
        (
          own.2,
          solves-++ θ (equations Γ (i + 1) l) (equations Γ (i + (1 + nodes l)) r)
              (met_solves θ Γ k (i + 1) l (omega arith) m.1) (met_solves θ Γ k (i + (1 + nodes l)) r (omega arith) m.2),
        ),
      ),
    )
met_solves θ Γ k i (if_else c t e) h m =
    let own = m.0 (omega arith) in
    let ts = equations Γ (i + (1 + nodes c)) t in
    let es = equations Γ (i + (1 + (nodes c + nodes t))) e in (
      own.0,
      (
        own.1,
        (
          own.2,
          solves-++ θ (equations Γ (i + 1) c) (ts ++ es) (met_solves θ Γ k (i + 1) c (omega arith) m.1)
              (solves-++ θ ts es (met_solves θ Γ k (i + (1 + nodes c)) t (omega arith) m.2)
              (met_solves θ Γ k (i + (1 + (nodes c + nodes t))) e (omega arith) m.3)),
        ),
      ),
    )

-- an assignment as types for the unknowns

abbrev pub types_for : Assignment → ℕ → Ty
types_for a j = cond (eqb (j % 2) 0) (a.type_of (j / 2)) (a.parameter_of (j / 2))

pub types_for_node : (a : Assignment) (i : ℕ) → types_for a (i + i) ≡ a.type_of i
types_for_node a i =
    let h : (i + i) / 2 ≡ i = omega arith in
    ap (λ b. cond b (a.type_of ((i + i) / 2)) (a.parameter_of ((i + i) / 2))) (eq-eqb ((i + i) % 2) 0 (omega arith))
    ∙ ap (λ n. a.type_of n) h

pub types_for_parameter : (a : Assignment) (i : ℕ) → types_for a (suc (i + i)) ≡ a.parameter_of i
types_for_parameter a i =
    let h : suc (i + i) / 2 ≡ i = omega arith in
    ap (λ b. cond b (a.type_of (suc (i + i) / 2)) (a.parameter_of (suc (i + i) / 2)))
    (ne_eqb (suc (i + i) % 2) 0 (λ e. omega arith)) ∙
    ap (λ n. a.parameter_of n) h

pub meets_solves : (r : ℕ) (t : Tree) (a : Assignment) → Meets r t (nodes t) a
    → Solves (types_for a) (equations (replicate r int) 0 t)
meets_solves r t a m =
    let θ = types_for a in
    let agree : Agree a (assigned θ) 0 (0 + nodes t) =
    record { types = λ n p q. sym (types_for_node a n); parameters = λ n p q. sym (types_for_parameter a n) } in
    let met = met_agree a (assigned θ) (replicate r int) (nodes t) 0 t agree m in
    met_solves θ (replicate r int) (nodes t) 0 t (omega arith) (subst (λ Γ. Met (assigned θ) Γ (nodes t) 0 t)
    (sym (put_all_readings θ r)) met)

general_from : (r : ℕ) (t : Tree) → Solution (equations (replicate r int) 0 t) → (μ : Ty) × MostGeneral r t μ
general_from r t s =
    let σ = s.solution in
    let met = subst (λ Γ. Met (assigned σ) Γ (nodes t) 0 t) (put_all_readings σ r) (solves_met σ (replicate r int)
    (nodes t) 0 t s.solves) in (
      σ 0,
      general_by_conditions r t (assigned σ) met
          (λ b m. (types_for b, s.every (types_for b) (meets_solves r t b m) 0 ∙ types_for_node b 0)),
    )

pub has_general_type : HasGeneralType
has_general_type r t τ h =
    let c = type_conditions r t τ (nodes t) h in
    general_from r t (solvable (types_for c.0) (equations (replicate r int) 0 t) (meets_solves r t c.0 c.2))
