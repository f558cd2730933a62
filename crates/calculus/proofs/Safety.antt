-- A typed rule is never stuck, a step keeps its types, and a value belongs to them.
use mathlib.Core.Bool.{Bool, true, false}
use mathlib.Core.List.{List, [], ◌∷◌}
use mathlib.Core.Option.{some}
use mathlib.Core.Path.{◌≡◌, refl, sym, subst}
use lib.IntN.{ℤ}
use lib.ListN.{length}
use native.Mathlib.Omega.{arith}
use Prim.Native.Nat.{ℕ, zero, suc}
use Rattle.syntax.specs.Tree.{Tree}
use Rattle.calculus.specs.Term.{Term, number, truth, variable, function, application, let_in, sum, at_most, if_else}
use Rattle.calculus.specs.Substitution.{put_one}
use Rattle.calculus.specs.Types.{Ty, int, bool, ◌⇒◌, Has, Belongs, RuleHas}
use Rattle.calculus.specs.Step.{Next, rests, beyond, stuck, to, first, step, apply, added, add, compare, choose}
use Rattle.calculus.specs.Range.{Sum, within, out_of_range, sum_of}
use Rattle.calculus.specs.Stages.{after, stage, start}
use Rattle.calculus.specs.Values.{number_of, truth_of, body_of}
use Rattle.calculus.specs.Laws.{NeverStuck, KeepsTypes, ValueBelongs}
use Rattle.calculus.proofs.Typing.{put_one_has, start_has}
use Rattle.calculus.proofs.Reduction.{rule_step, stuck_next}

-- values by their types

pub belongs_int : (v : Term) → Belongs v int → (k : ℤ) × (v ≡ number k)
belongs_int (number k) h = (k, refl)
belongs_int (truth b) h = let z : ◌≡◌ {A = ℕ} 0 1 = cc in absurd (omega arith)
belongs_int (variable d) h = absurd h
belongs_int (function n b) (p, s, e) = let z : ◌≡◌ {A = ℕ} 0 1 = cc in absurd (omega arith)
belongs_int (application n f a) h = absurd h
belongs_int (let_in n e b) h = absurd h
belongs_int (sum n l r) h = absurd h
belongs_int (at_most n l r) h = absurd h
belongs_int (if_else n c t e) h = absurd h

pub belongs_bool : (v : Term) → Belongs v bool → (b : Bool) × (v ≡ truth b)
belongs_bool (number k) h = let z : ◌≡◌ {A = ℕ} 0 1 = cc in absurd (omega arith)
belongs_bool (truth b) h = (b, refl)
belongs_bool (variable d) h = absurd h
belongs_bool (function n b) (p, s, e) = let z : ◌≡◌ {A = ℕ} 0 1 = cc in absurd (omega arith)
belongs_bool (application n f a) h = absurd h
belongs_bool (let_in n e b) h = absurd h
belongs_bool (sum n l r) h = absurd h
belongs_bool (at_most n l r) h = absurd h
belongs_bool (if_else n c t e) h = absurd h

-- what may come next for a term of type τ
abbrev pub Good : Term → Ty → Next → Type 0
Good t τ rests = Belongs t τ
Good t τ (beyond n) = Unit {0}
Good t τ stuck = ⊥
Good t τ (to u) = Has [] u τ

first_good : (child whole : Term) (σ τ : Ty) (around : Term → Term) (next onward : Next) →
    ((u : Term) → Has [] u σ → Has [] (around u) τ) → (Belongs child σ → Good whole τ onward) →
    Good child σ next → Good whole τ (first next around onward)
first_good child whole σ τ around rests onward inner last h = last h
first_good child whole σ τ around (beyond n) onward inner last h = tt
first_good child whole σ τ around stuck onward inner last h = h
first_good child whole σ τ around (to u) onward inner last h = inner u h

apply_good : (n : ℕ) (f v : Term) (p τ : Ty) → Has [] v p → Has [] f (p ⇒ τ) → Belongs f (p ⇒ τ)
    → Good (application n f v) τ (apply (body_of f) v)
apply_good n (number k) v p τ h i b = let z : ◌≡◌ {A = ℕ} 0 1 = cc in absurd (omega arith)
apply_good n (truth k) v p τ h i b = let z : ◌≡◌ {A = ℕ} 0 1 = cc in absurd (omega arith)
apply_good n (variable d) v p τ h i b = absurd b
apply_good n (function m x) v p τ h (q, s, e, i) b =
    let e₀ : p ≡ q = cc in
    let e₁ : s ≡ τ = cc in
    put_one_has q τ v x (subst (λ y. Has [] v y) e₀ h) (subst (λ y. Has (q ∷ []) x y) e₁ i)
apply_good n (application m f a) v p τ h i b = absurd b
apply_good n (let_in m x y) v p τ h i b = absurd b
apply_good n (sum m l r) v p τ h i b = absurd b
apply_good n (at_most m l r) v p τ h i b = absurd b
apply_good n (if_else m c t x) v p τ h i b = absurd b

add_good : (n : ℕ) (l r : Term) (τ : Ty) → τ ≡ int → (i : ℤ) × (l ≡ number i) → (j : ℤ) × (r ≡ number j)
    → Good (sum n l r) τ (add n (number_of l) (number_of r))
add_good n l r τ e (i, p) (j, q) =
    subst (λ x. Good (sum n l r) τ (add n (number_of x) (number_of r))) (sym p)
    (subst (λ x. Good (sum n l r) τ (add n (some i) (number_of x))) (sym q) (in_or_out (sum_of i j)))
  where
    in_or_out : (s : Sum) → Good (sum n l r) τ (added n s)
    in_or_out (within k) = e
    in_or_out out_of_range = tt

compare_good : (n : ℕ) (l r : Term) (τ : Ty) → τ ≡ bool → (i : ℤ) × (l ≡ number i) → (j : ℤ) × (r ≡ number j)
    → Good (at_most n l r) τ (compare (number_of l) (number_of r))
compare_good n l r τ e (i, p) (j, q) =
    subst (λ x. Good (at_most n l r) τ (compare (number_of x) (number_of r))) (sym p)
    (subst (λ x. Good (at_most n l r) τ (compare (some i) (number_of x))) (sym q) e)

choose_good : (n : ℕ) (c t e : Term) (τ : Ty) → Has [] t τ → Has [] e τ → (b : Bool) × (c ≡ truth b)
    → Good (if_else n c t e) τ (choose (truth_of c) t e)
choose_good n c t e τ h i (b, p) = subst (λ x. Good (if_else n c t e) τ (choose (truth_of x) t e)) (sym p) (either b)
  where
    either : (b : Bool) → Good (if_else n c t e) τ (choose (some b) t e)
    either true = h
    either false = i

pub step_good : (t : Term) (τ : Ty) → Has [] t τ → Good t τ (step t)
step_good (number k) τ h = h
step_good (truth b) τ h = h
step_good (variable d) τ h = let z : ◌≡◌ {A = ℕ} 0 1 = cc in absurd (omega arith)
step_good (function n b) τ (p, s, e, h) = (p, s, e)
step_good (application n f a) τ (p, h, i) =
    first_good a (application n f a) p τ (λ y. application n f y) (step a) (first (step f) (λ y. application n y a)
    (apply (body_of f) a))
    (λ u s. (p, h, s))
    (λ v. first_good f (application n f a) (p ⇒ τ) τ (λ y. application n y a) (step f) (apply (body_of f) a)
    (λ u s. (p, s, i)) (λ w. apply_good n f a p τ i h w) (step_good f (p ⇒ τ) h))
    (step_good a p i)
step_good (let_in n e b) τ (p, h, i) =
    first_good e (let_in n e b) p τ (λ y. let_in n y b) (step e) (to (put_one e b)) (λ u s. (p, s, i))
    (λ v. put_one_has p τ e b h i) (step_good e p h)
step_good (sum n l r) τ (e, h, i) =
    first_good r (sum n l r) int τ (λ y. sum n l y) (step r) (first (step l) (λ y. sum n y r)
    (add n (number_of l) (number_of r)))
    (λ u s. (e, h, s))
    (λ v. first_good l (sum n l r) int τ (λ y. sum n y r) (step l) (add n (number_of l) (number_of r))
    (λ u s. (e, s, i)) (λ w. add_good n l r τ e (belongs_int l w) (belongs_int r v)) (step_good l int h))
    (step_good r int i)
step_good (at_most n l r) τ (e, h, i) =
    first_good r (at_most n l r) int τ (λ y. at_most n l y) (step r) (first (step l) (λ y. at_most n y r)
    (compare (number_of l) (number_of r)))
    (λ u s. (e, h, s))
    (λ v. first_good l (at_most n l r) int τ (λ y. at_most n y r) (step l) (compare (number_of l) (number_of r))
    (λ u s. (e, s, i)) (λ w. compare_good n l r τ e (belongs_int l w) (belongs_int r v)) (step_good l int h))
    (step_good r int i)
step_good (if_else n c t e) τ (h, i, j) =
    first_good c (if_else n c t e) bool τ (λ y. if_else n y t e) (step c) (choose (truth_of c) t e) (λ u s. (s, i, j))
    (λ v. choose_good n c t e τ i j (belongs_bool c v)) (step_good c bool h)

-- stages keep every type

after_has : (t : Term) (τ : Ty) (next : Next) → Has [] t τ → Good t τ next → Has [] (after t next) τ
after_has t τ rests h g = h
after_has t τ (beyond n) h g = h
after_has t τ stuck h g = h
after_has t τ (to u) h g = g

pub stage_has : (n : ℕ) (t : Term) (τ : Ty) → Has [] t τ → Has [] (stage n t) τ
stage_has zero t τ h = h
stage_has (suc n) t τ h =
    after_has (stage n t) τ (step (stage n t)) (stage_has n t τ h) (step_good (stage n t) τ (stage_has n t τ h))

-- the laws

pub never_stuck_next : (t : Tree) (τ : Ty) (readings : List ℤ) → RuleHas (length readings) t τ → (n : ℕ) →
    ¬ (step (stage n (start readings t)) ≡ stuck)
never_stuck_next t τ readings h n e =
    subst (λ x. Good (stage n (start readings t)) τ x) e (step_good (stage n (start readings t)) τ
    (stage_has n (start readings t) τ (start_has t τ readings h)))

pub never_stuck : NeverStuck
never_stuck t τ readings h n s = never_stuck_next t τ readings h n (stuck_next (stage n (start readings t)) s)

pub keeps_types : KeepsTypes
keeps_types =
    record {
      at_start = start_has;
      at_step = λ t u τ h r. subst (λ x. Good t τ x) (rule_step r) (step_good t τ h);
    }

pub value_belongs : ValueBelongs
value_belongs t τ readings h n e =
    subst (λ x. Good (stage n (start readings t)) τ x) e (step_good (stage n (start readings t)) τ
    (stage_has n (start readings t) τ (start_has t τ readings h)))
