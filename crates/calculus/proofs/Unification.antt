-- Equations between types that have a solution have a most general one.
use mathlib.Core.Bool.{Bool, true, false, cond, ◌||◌}
use mathlib.Core.List.{List, [], ◌∷◌, ◌++◌}
use mathlib.Core.Path.{◌≡◌, refl, sym, ◌∙◌, ap}
use borrow.Author.Tests.{eqb-true, eq-eqb}
use lib.Dec.{eqb}
use native.Mathlib.Omega.{arith}
use Prim.Native.Nat.{ℕ, zero, suc, ◌+◌, ◌≤◌, ◌<◌}
use Rattle.calculus.specs.Types.{Ty, int, bool, ◌⇒◌, unknown}
use Rattle.calculus.specs.General.{put_types}
use Rattle.calculus.proofs.General.{put_types_twice}

-- equations, and what solves them

pub record Equation : Type 0 where
  pub left : Ty
  pub right : Ty

abbrev pub ◌≐◌ : Ty → Ty → Equation
l ≐ r = record { left = l; right = r }

infix 4 ◌≐◌
abbrev pub Solves : (ℕ → Ty) → List Equation → Type 0
Solves θ [] = Unit {0}
Solves θ (e ∷ es) = (put_types θ e.left ≡ put_types θ e.right) × Solves θ es

pub solves-++ : (θ : ℕ → Ty) (es fs : List Equation) → Solves θ es → Solves θ fs → Solves θ (es ++ fs)
solves-++ θ [] fs h i = i
solves-++ θ (e ∷ es) fs h i = (h.0, solves-++ θ es fs h.1 i)

pub solves_left : (θ : ℕ → Ty) (es fs : List Equation) → Solves θ (es ++ fs) → Solves θ es
solves_left θ [] fs h = tt
solves_left θ (e ∷ es) fs h = (h.0, solves_left θ es fs h.1)

pub solves_right : (θ : ℕ → Ty) (es fs : List Equation) → Solves θ (es ++ fs) → Solves θ fs
solves_right θ [] fs h = h
solves_right θ (e ∷ es) fs h = solves_right θ es fs h.1

-- a solution from which every solution comes
pub record Solution (es : List Equation) : Type 0 where
  pub solution : ℕ → Ty
  pub solves : Solves solution es
  pub every : (θ : ℕ → Ty) → Solves θ es → (k : ℕ) → put_types θ (solution k) ≡ θ k

-- other equations with the same solutions
same_solution : (es fs : List Equation) → ((θ : ℕ → Ty) → Solves θ es → Solves θ fs) → ((θ : ℕ → Ty) → Solves θ fs
    → Solves θ es) → Solution es → Solution fs
same_solution es fs there back s =
    record { solution = s.solution; solves = there s.solution s.solves; every = λ θ h. s.every θ (back θ h) }

-- put_types

put_types_same : (θ φ : ℕ → Ty) → ((k : ℕ) → θ k ≡ φ k) → (τ : Ty) → put_types θ τ ≡ put_types φ τ
put_types_same θ φ h int = refl
put_types_same θ φ h bool = refl
put_types_same θ φ h (p ⇒ s) = let a = put_types_same θ φ h p in let b = put_types_same θ φ h s in cc
put_types_same θ φ h (unknown k) = h k

-- one type for one unknown

abbrev single : ℕ → Ty → ℕ → Ty
single k r j = cond (eqb j k) r (unknown j)

single_at : (k : ℕ) (r : Ty) → single k r k ≡ r
single_at k r = ap (λ b. cond b r (unknown k)) (eq-eqb k k refl)

-- a solution of k = r does not see it
single_solved : (k : ℕ) (r : Ty) (θ : ℕ → Ty) → θ k ≡ put_types θ r → (j : ℕ) → put_types θ (single k r j) ≡ θ j
single_solved k r θ h j = by_test (eqb j k) refl
  where
    by_test : (b : Bool) → eqb j k ≡ b → put_types θ (cond b r (unknown j)) ≡ θ j
    by_test true e = sym h ∙ ap θ (sym (eqb-true j k e))
    by_test false e = refl

put_single_solved : (k : ℕ) (r : Ty) (θ : ℕ → Ty) → θ k ≡ put_types θ r → (τ : Ty)
    → put_types θ (put_types (single k r) τ) ≡ put_types θ τ
put_single_solved k r θ h τ = put_types_twice (single k r) θ τ ∙ put_types_same (λ j. put_types θ (single k r j)) θ
    (single_solved k r θ h) τ

abbrev put_equations : (ℕ → Ty) → List Equation → List Equation
put_equations θ [] = []
put_equations θ (e ∷ es) = (put_types θ e.left ≐ put_types θ e.right) ∷ put_equations θ es

solves_single : (k : ℕ) (r : Ty) (θ : ℕ → Ty) → θ k ≡ put_types θ r → (es : List Equation) → Solves θ es
    → Solves θ (put_equations (single k r) es)
solves_single k r θ h [] s = tt
solves_single k r θ h (e ∷ es) s =
    (put_single_solved k r θ h e.left ∙ s.0 ∙ sym (put_single_solved k r θ h e.right), solves_single k r θ h es s.1)

solves_twice : (θ φ : ℕ → Ty) (es : List Equation) → Solves φ (put_equations θ es) → Solves (λ k. put_types φ (θ k)) es
solves_twice θ φ [] s = tt
solves_twice θ φ (e ∷ es) s = (
  sym (put_types_twice θ φ e.left) ∙ s.0 ∙ put_types_twice θ φ e.right,
  solves_twice θ φ es s.1,
)

-- whether an unknown occurs

occurs : ℕ → Ty → Bool
occurs k int = false
occurs k bool = false
occurs k (p ⇒ s) = occurs k p || occurs k s
occurs k (unknown j) = eqb j k

neither : (a b : Bool) → a || b ≡ false → (a ≡ false) × (b ≡ false)
neither true b e = let z : ◌≡◌ {A = ℕ} 0 1 = cc in absurd (omega arith)
neither false b e = (refl, e)

single_absent : (k : ℕ) (r τ : Ty) → occurs k τ ≡ false → put_types (single k r) τ ≡ τ
unfolding occurs
single_absent k r int e = refl
single_absent k r bool e = refl
single_absent k r (p ⇒ s) e =
    let h = neither (occurs k p) (occurs k s) e in
    let a = single_absent k r p h.0 in
    let b = single_absent k r s h.1 in
    cc
single_absent k r (unknown j) e = ap (λ b. cond b r (unknown j)) e

-- k = r, r without k, is solved by putting r for k in the others
eliminated : (k : ℕ) (r : Ty) (es : List Equation) → put_types (single k r) r ≡ r
    → Solution (put_equations (single k r) es) → Solution ((unknown k ≐ r) ∷ es)
eliminated k r es absent s =
    let σ = s.solution in
    let δ = single k r in
    record {
      solution = λ j. put_types σ (δ j);
      solves = (
        ap (λ x. put_types σ x) (single_at k r) ∙ ap (λ x. put_types σ x) (sym absent) ∙ put_types_twice δ σ r,
        solves_twice δ σ es s.solves,
      );
      every = λ θ h j.
          put_types_twice σ θ (δ j) ∙
          put_types_same (λ i. put_types θ (σ i)) θ (s.every θ (solves_single k r θ h.0 es h.1)) (δ j) ∙
          single_solved k r θ h.0 j;
    }

-- sizes

pub size : Ty → ℕ
size int = 1
size bool = 1
size (p ⇒ s) = suc (size p + size s)
size (unknown k) = 1

size_pos : (τ : Ty) → 0 < size τ
unfolding size
size_pos int = omega arith
size_pos bool = omega arith
size_pos (p ⇒ s) = omega arith
size_pos (unknown k) = omega arith

-- an unknown that occurs is not longer than the whole

occurs_sides : (k : ℕ) (p s : Ty) (m n o : ℕ) → occurs k p || occurs k s ≡ true → (occurs k p ≡ true → m ≤ n)
    → (occurs k s ≡ true → m ≤ o) → m ≤ n + o
occurs_sides k p s m n o e g h = by_test (occurs k p) refl
  where
    by_test : (b : Bool) → occurs k p ≡ b → m ≤ n + o
    by_test true f = let q = g f in omega arith
    by_test false f = let q = h (sym (ap (λ x. x || occurs k s) f) ∙ e) in omega arith

occurs_size : (k : ℕ) (θ : ℕ → Ty) (τ : Ty) → occurs k τ ≡ true → size (θ k) ≤ size (put_types θ τ)
unfolding occurs size
occurs_size k θ int e = let z : ◌≡◌ {A = ℕ} 0 1 = cc in absurd (omega arith)
occurs_size k θ bool e = let z : ◌≡◌ {A = ℕ} 0 1 = cc in absurd (omega arith)
occurs_size k θ (p ⇒ s) e =
    let q = occurs_sides k p s (size (θ k)) (size (put_types θ p)) (size (put_types θ s)) e (occurs_size k θ p)
    (occurs_size k θ s) in
    omega arith
occurs_size k θ (unknown j) e = let q : size (θ j) ≡ size (θ k) = ap (λ x. size (θ x)) (eqb-true j k e) in omega arith

-- no solution of k = p → s where k occurs in it
occurs_never : (k : ℕ) (θ : ℕ → Ty) (p s : Ty) → θ k ≡ put_types θ (p ⇒ s) → occurs k (p ⇒ s) ≡ true → ⊥
unfolding occurs size
occurs_never k θ p s h e =
    let q = occurs_sides k p s (size (θ k)) (size (put_types θ p)) (size (put_types θ s)) e (occurs_size k θ p)
    (occurs_size k θ s) in
    let f : size (θ k) ≡ suc (size (put_types θ p) + size (put_types θ s)) = ap size h in
    omega arith

-- unification, as long as a given solution's types fall in size

weight : (ℕ → Ty) → List Equation → ℕ
weight θ [] = 0
weight θ (e ∷ es) = size (put_types θ e.left) + weight θ es

weight_single : (k : ℕ) (r : Ty) (θ : ℕ → Ty) → θ k ≡ put_types θ r → (es : List Equation)
    → weight θ (put_equations (single k r) es) ≡ weight θ es
unfolding weight
weight_single k r θ h [] = refl
weight_single k r θ h (e ∷ es) =
    let a : size (put_types θ (put_types (single k r) e.left)) ≡ size (put_types θ e.left) =
    ap size (put_single_solved k r θ h e.left) in
    let b = weight_single k r θ h es in
    omega arith

module _ (θ : ℕ → Ty) (fuel : ℕ) (inner : (es : List Equation) → Solves θ es → weight θ es < fuel → Solution es) where
  eliminate : (k : ℕ) (r : Ty) (es : List Equation) → put_types (single k r) r ≡ r → θ k ≡ put_types θ r → Solves θ es
      → weight θ es < fuel → Solution ((unknown k ≐ r) ∷ es)
  eliminate k r es absent e s h =
      eliminated k r es absent (inner (put_equations (single k r) es) (solves_single k r θ e es s)
      (let w = weight_single k r θ e es in omega arith))

  unknown_first : (k : ℕ) (r : Ty) (es : List Equation) → θ k ≡ put_types θ r → Solves θ es → weight θ es < fuel
      → Solution ((unknown k ≐ r) ∷ es)
  unfolding occurs
  unknown_first k int es e s h = eliminate k int es refl e s h
  unknown_first k bool es e s h = eliminate k bool es refl e s h
  unknown_first k (p ⇒ q) es e s h = by_test (occurs k (p ⇒ q)) refl
    where
      by_test : (b : Bool) → occurs k (p ⇒ q) ≡ b → Solution ((unknown k ≐ (p ⇒ q)) ∷ es)
      by_test true f = absurd (occurs_never k θ p q e f)
      by_test false f = eliminate k (p ⇒ q) es (single_absent k (p ⇒ q) (p ⇒ q) f) e s h
  unknown_first k (unknown j) es e s h = by_test (eqb j k) refl
    where
      by_test : (b : Bool) → eqb j k ≡ b → Solution ((unknown k ≐ unknown j) ∷ es)
      by_test true f =
          same_solution es ((unknown k ≐ unknown j) ∷ es) (λ φ g. (ap φ (sym (eqb-true j k f)), g)) (λ φ g. g.1)
          (inner es s h)
      by_test false f = eliminate k (unknown j) es (single_absent k (unknown j) (unknown j) f) e s h

  unknown_second : (k : ℕ) (l : Ty) (es : List Equation) → put_types θ l ≡ θ k → Solves θ es → weight θ es < fuel
      → Solution ((l ≐ unknown k) ∷ es)
  unknown_second k l es e s h =
      same_solution ((unknown k ≐ l) ∷ es) ((l ≐ unknown k) ∷ es) (λ φ g. (sym g.0, g.1)) (λ φ g. (sym g.0, g.1))
      (unknown_first k l es (sym e) s h)

  arrows : (p s q u : Ty) (es : List Equation) → put_types θ (p ⇒ s) ≡ put_types θ (q ⇒ u) → Solves θ es
      → size (put_types θ (p ⇒ s)) + weight θ es < suc fuel → Solution (((p ⇒ s) ≐ (q ⇒ u)) ∷ es)
  unfolding size weight
  arrows p s q u es e g h =
      same_solution ((p ≐ q) ∷ (s ≐ u) ∷ es) (((p ⇒ s) ≐ (q ⇒ u)) ∷ es)
      (λ φ f. (let a = f.0 in let b = f.1.0 in cc, f.1.1))
      (λ φ f. let a = f.0 in (cc, (cc, f.1)))
      (inner ((p ≐ q) ∷ (s ≐ u) ∷ es) (cc, (cc, g)) (omega arith))

  one_equation : (l r : Ty) (es : List Equation) → put_types θ l ≡ put_types θ r → Solves θ es
      → size (put_types θ l) + weight θ es < suc fuel → Solution ((l ≐ r) ∷ es)
  one_equation int int es e s h = same_solution es ((int ≐ int) ∷ es) (λ φ g. (refl, g)) (λ φ g. g.1)
      (inner es s (omega (arith, size_pos int)))
  one_equation int bool es e s h = let z : ◌≡◌ {A = ℕ} 0 1 = cc in absurd (omega arith)
  one_equation int (q ⇒ u) es e s h = let z : ◌≡◌ {A = ℕ} 0 1 = cc in absurd (omega arith)
  one_equation int (unknown k) es e s h = unknown_second k int es e s (omega (arith, size_pos int))
  one_equation bool int es e s h = let z : ◌≡◌ {A = ℕ} 0 1 = cc in absurd (omega arith)
  one_equation bool bool es e s h = same_solution es ((bool ≐ bool) ∷ es) (λ φ g. (refl, g)) (λ φ g. g.1)
      (inner es s (omega (arith, size_pos bool)))
  one_equation bool (q ⇒ u) es e s h = let z : ◌≡◌ {A = ℕ} 0 1 = cc in absurd (omega arith)
  one_equation bool (unknown k) es e s h = unknown_second k bool es e s (omega (arith, size_pos bool))
  one_equation (p ⇒ s) int es e g h = let z : ◌≡◌ {A = ℕ} 0 1 = cc in absurd (omega arith)
  one_equation (p ⇒ s) bool es e g h = let z : ◌≡◌ {A = ℕ} 0 1 = cc in absurd (omega arith)
  one_equation (p ⇒ s) (q ⇒ u) es e g h = arrows p s q u es e g h
  one_equation (p ⇒ s) (unknown k) es e g h = unknown_second k (p ⇒ s) es e g
      (omega (arith, size_pos (put_types θ (p ⇒ s))))
  one_equation (unknown k) r es e s h = unknown_first k r es e s (omega (arith, size_pos (θ k)))

unify : (fuel : ℕ) (θ : ℕ → Ty) (es : List Equation) → Solves θ es → weight θ es < fuel → Solution es
unfolding weight
unify zero θ es s h = absurd (omega arith)
unify (suc fuel) θ [] s h = record { solution = unknown; solves = tt; every = λ φ g k. refl }
unify (suc fuel) θ (e ∷ es) s h = one_equation θ fuel (unify fuel θ) e.left e.right es s.0 s.1 h

-- equations that have a solution have a most general one
pub solvable : (θ : ℕ → Ty) (es : List Equation) → Solves θ es → Solution es
solvable θ es s = unify (suc (weight θ es)) θ es s (omega arith)
