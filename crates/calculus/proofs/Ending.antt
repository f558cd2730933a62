-- Every typed rule has a length.
use mathlib.Core.Bool.{Bool, true, false, not, ◌&&◌}
use mathlib.Core.List.{List, [], ◌∷◌, map}
use mathlib.Core.Option.{some}
use mathlib.Core.Path.{◌≡◌, refl, sym, ◌∙◌, ap, subst}
use lib.IntN.{ℤ}
use lib.ListN.{length, replicate}
use lib.Signed.{le_z}
use native.Mathlib.Decide.{ℕ_discrete}
use native.Mathlib.Omega.{arith}
use Prim.Native.Nat.{ℕ, zero, suc, ◌<◌}
use Rattle.calculus.specs.Term.{Term, number, truth, variable, function, application, let_in, sum, at_most, if_else}
use Rattle.calculus.specs.Term.{numbered}
use Rattle.calculus.specs.Substitution.{find, or_else, put, put_one, Closed}
use Rattle.calculus.specs.Types.{Ty, int, bool, ◌⇒◌, unknown, at, Has}
use Rattle.calculus.specs.Step.{Next, rests, beyond, to, first, right_left, step, apply, added, add, compare, choose}
use Rattle.calculus.specs.Range.{Sum, within, out_of_range, sum_of}
use Rattle.calculus.specs.Stages.{after, stage}
use Rattle.calculus.specs.Values.{number_of, truth_of, body_of}
use Rattle.calculus.specs.Length.{over, ends, Length}
use Rattle.calculus.specs.Laws.{HasLength}
use Rattle.calculus.proofs.Substitution.{AllClosed, put_put, put_closes}
use Rattle.calculus.proofs.Typing.{has_closed}

-- t runs until it rests at a value with the property P, or until a sum leaves the number range
data Runs (P : Term → Type 0) : Term → Type 0 where
  done : {t : Term} → step t ≡ rests → P t → Runs P t
  leaves : {t : Term} (n : ℕ) → step t ≡ beyond n → Runs P t
  goes : {t u : Term} → step t ≡ to u → Runs P u → Runs P t

-- a child that runs, in the place C that comes first, lets the whole run
bind : {P Q : Term → Type 0} (C : Term → Term) (onward : Term → Next) →
    ((t : Term) → step (C t) ≡ first (step t) C (onward t)) →
    ((v : Term) → step v ≡ rests → P v → Runs Q (C v)) →
    {t : Term} → Runs P t → Runs Q (C t)
bind C onward eq onto (done {t} e p) = onto t e p
bind C onward eq onto (leaves {t} n e) = leaves n (eq t ∙ ap (λ x. first x C (onward t)) e)
bind C onward eq onto (goes {t} {u} e r) = goes (eq t ∙ ap (λ x. first x C (onward t)) e) (bind C onward eq onto r)

-- the values of a type: a function of it runs on every value of its parameter type
abbrev Sem : Ty → Term → Type 0
Sem int v = (k : ℤ) × (v ≡ number k)
Sem bool v = (b : Bool) × (v ≡ truth b)
Sem (p ⇒ s) v =
    (n : ℕ) × (b : Term) × (v ≡ function n b) × Closed 1 b × ((w : Term) → Sem p w → Runs (Sem s) (put_one w b))
Sem (unknown k) v = ⊥

sem_closed : (τ : Ty) (v : Term) → Sem τ v → Closed 0 v
sem_closed int v (k, e) = subst (λ x. Closed 0 x) (sym e) tt
sem_closed bool v (b, e) = subst (λ x. Closed 0 x) (sym e) tt
sem_closed (p ⇒ s) v (n, b, e, c, r) = subst (λ x. Closed 0 x) (sym e) c
sem_closed (unknown k) v h = absurd h

sem_rests : (τ : Ty) (v : Term) → Sem τ v → step v ≡ rests
sem_rests int v (k, e) = ap (λ x. step x) e
sem_rests bool v (b, e) = ap (λ x. step x) e
sem_rests (p ⇒ s) v (n, b, e, c, r) = ap (λ x. step x) e
sem_rests (unknown k) v h = absurd h

-- each of vs is a value of its type in Γ
abbrev Sems : List Term → List Ty → Type 0
Sems [] [] = Unit {0}
Sems [] (p ∷ Γ) = ⊥
Sems (v ∷ vs) [] = ⊥
Sems (v ∷ vs) (p ∷ Γ) = Sem p v × Sems vs Γ

sems_closed : (vs : List Term) (Γ : List Ty) → Sems vs Γ → AllClosed vs
sems_closed [] [] h = tt
sems_closed [] (p ∷ Γ) h = absurd h
sems_closed (v ∷ vs) [] h = absurd h
sems_closed (v ∷ vs) (p ∷ Γ) h = (sem_closed p v h.0, sems_closed vs Γ h.1)

sems_length : (vs : List Term) (Γ : List Ty) → Sems vs Γ → length vs ≡ length Γ
sems_length [] [] h = refl
sems_length [] (p ∷ Γ) h = absurd h
sems_length (v ∷ vs) [] h = absurd h
sems_length (v ∷ vs) (p ∷ Γ) h = ap suc (sems_length vs Γ h.1)

sems_at : (vs : List Term) (Γ : List Ty) (d : ℕ) (τ : Ty) → Sems vs Γ → at Γ d ≡ some τ → (v : Term)
    × (find zero vs d ≡ some v) × Sem τ v
sems_at [] [] d τ h e = let z : ◌≡◌ {A = ℕ} 0 1 = cc in absurd (omega arith)
sems_at [] (p ∷ Γ) d τ h e = absurd h
sems_at (v ∷ vs) [] d τ h e = absurd h
sems_at (v ∷ vs) (p ∷ Γ) zero τ h e = let q : p ≡ τ = cc in (v, refl, subst (λ x. Sem x v) q h.0)
sems_at (v ∷ vs) (p ∷ Γ) (suc d) τ h e = sems_at vs Γ d τ h.1 e

-- once the children that come first are values

runs_value : (τ : Ty) (t v : Term) → t ≡ v → Sem τ v → Runs (Sem τ) t
runs_value τ t v e h = subst (λ x. Runs (Sem τ) x) (sym e) (done (sem_rests τ v h) h)

runs_apply : (n : ℕ) (p τ : Ty) (f v : Term) → step v ≡ rests → Sem p v → Sem (p ⇒ τ) f
    → Runs (Sem τ) (application n f v)
runs_apply n p τ f v e h (m, b, q, c, r) =
    subst (λ x. Runs (Sem τ) (application n x v)) (sym q)
    (goes (ap (λ x. right_left (application n) (function m b) v rests x (to (put_one v b))) e) (r v h))

runs_add : (n : ℕ) (τ : Ty) (i j : ℤ) → τ ≡ int → (s : Sum) → sum_of i j ≡ s
    → Runs (Sem τ) (sum n (number i) (number j))
runs_add n τ i j e (within k) q = goes (ap (λ x. added n x) q)
    (done refl (subst (λ x. Sem x (number k)) (sym e) (k, refl)))
runs_add n τ i j e out_of_range q = leaves n (ap (λ x. added n x) q)

runs_sum : (n : ℕ) (τ : Ty) (l r : Term) → τ ≡ int → Sem int l → Sem int r → Runs (Sem τ) (sum n l r)
runs_sum n τ l r e (i, p) (j, q) =
    subst (λ x. Runs (Sem τ) (sum n x r)) (sym p)
    (subst (λ x. Runs (Sem τ) (sum n (number i) x)) (sym q) (runs_add n τ i j e (sum_of i j) refl))

runs_compare : (n : ℕ) (τ : Ty) (l r : Term) → τ ≡ bool → Sem int l → Sem int r → Runs (Sem τ) (at_most n l r)
runs_compare n τ l r e (i, p) (j, q) =
    subst (λ x. Runs (Sem τ) (at_most n x r)) (sym p)
    (subst (λ x. Runs (Sem τ) (at_most n (number i) x)) (sym q)
    (goes {t = at_most n (number i) (number j)} refl (done refl (subst (λ x. Sem x (truth (le_z i j))) (sym e)
    (le_z i j, refl)))))

runs_choose : (n : ℕ) (τ : Ty) (c t e : Term) → Runs (Sem τ) t → Runs (Sem τ) e → Sem bool c
    → Runs (Sem τ) (if_else n c t e)
runs_choose n τ c t e h i (b, q) = subst (λ x. Runs (Sem τ) (if_else n x t e)) (sym q) (either b)
  where
    either : (b : Bool) → Runs (Sem τ) (if_else n (truth b) t e)
    either true = goes refl h
    either false = goes refl i

-- the right child, then the left one
runs_operands : {P Q R : Term → Type 0} (node : Term → Term → Term) (reduce : Term → Term → Next) →
    ((l r : Term) → step (node l r) ≡ right_left node l r (step l) (step r) (reduce l r)) →
    ((l r : Term) → step r ≡ rests → P l → Q r → Runs R (node l r)) →
    {l r : Term} → Runs P l → Runs Q r → Runs R (node l r)
runs_operands node reduce eq onto {l} {r} h i =
    bind (λ y. node l y) (λ y. first (step l) (λ z. node z y) (reduce l y)) (λ y. eq l y)
    (λ v e q. bind (λ z. node z v) (λ z. reduce z v)
    (λ z. eq z v ∙ ap (λ x. first x (λ y. node z y) (first (step z) (λ y. node y v) (reduce z v))) e)
    (λ w f p. onto w v e p q)
    h)
    i

-- every typed term runs, with values of the right types put in
runs : (Γ : List Ty) (vs : List Term) (t : Term) (τ : Ty) → Sems vs Γ → Has Γ t τ → Runs (Sem τ) (put zero vs t)
runs Γ vs (number k) τ s e = done refl (subst (λ x. Sem x (number k)) (sym e) (k, refl))
runs Γ vs (truth b) τ s e = done refl (subst (λ x. Sem x (truth b)) (sym e) (b, refl))
runs Γ vs (variable d) τ s e =
    let f = sems_at vs Γ d τ s e in
    runs_value τ (or_else (find zero vs d) (variable d)) f.0 (ap (λ o. or_else o (variable d)) f.1) f.2
runs Γ vs (function n b) τ s (p, q, e, h) =
    done refl
    (subst (λ x. Sem x (function n (put 1 vs b))) (sym e) (
      n,
      put 1 vs b,
      refl,
      put_closes (suc (length Γ)) 1 vs b (omega (arith, sems_length vs Γ s)) (sems_closed vs Γ s)
          (has_closed (p ∷ Γ) b q h),
      λ w i. subst (λ x. Runs (Sem q) x) (sym (put_put zero w vs b (sems_closed vs Γ s)))
          (runs (p ∷ Γ) (w ∷ vs) b q (i, s) h),
    ))
runs Γ vs (application n f a) τ s (p, h, i) =
    runs_operands (application n) (λ l r. apply (body_of l) r) (λ l r. refl) (λ l r e u v. runs_apply n p τ l r e v u)
    (runs Γ vs f (p ⇒ τ) s h) (runs Γ vs a p s i)
runs Γ vs (let_in n e b) τ s (p, h, i) =
    bind (λ y. let_in n y (put 1 vs b)) (λ y. to (put_one y (put 1 vs b))) (λ y. refl)
    (λ v r w. goes (ap (λ x. first x (λ y. let_in n y (put 1 vs b)) (to (put_one v (put 1 vs b)))) r)
    (subst (λ x. Runs (Sem τ) x) (sym (put_put zero v vs b (sems_closed vs Γ s))) (runs (p ∷ Γ) (v ∷ vs) b τ (w, s) i)))
    (runs Γ vs e p s h)
runs Γ vs (sum n l r) τ s (e, h, i) =
    runs_operands (sum n) (λ l r. add n (number_of l) (number_of r)) (λ l r. refl) (λ l r f u v. runs_sum n τ l r e u v)
    (runs Γ vs l int s h) (runs Γ vs r int s i)
runs Γ vs (at_most n l r) τ s (e, h, i) =
    runs_operands (at_most n) (λ l r. compare (number_of l) (number_of r)) (λ l r. refl)
    (λ l r f u v. runs_compare n τ l r e u v)
    (runs Γ vs l int s h) (runs Γ vs r int s i)
runs Γ vs (if_else n c t e) τ s (h, i, j) =
    bind (λ y. if_else n y (put zero vs t) (put zero vs e)) (λ y. choose (truth_of y) (put zero vs t) (put zero vs e))
    (λ y. refl)
    (λ v r w. runs_choose n τ v (put zero vs t) (put zero vs e) (runs Γ vs t τ s i) (runs Γ vs e τ s j) w)
    (runs Γ vs c bool s h)

-- what runs has a length

pub stage_behind : (n : ℕ) (t u : Term) → step t ≡ to u → stage (suc n) t ≡ stage n u
stage_behind zero t u e = ap (λ x. after t x) e
stage_behind (suc n) t u e = ap (λ x. after x (step x)) (stage_behind n t u e)

length_behind : (t u : Term) (n : ℕ) → step t ≡ to u → Length u n → Length t (suc n)
length_behind t u n e l =
    record {
      last = ap (λ x. over x) (stage_behind n t u e) ∙ l.last;
      earlier = earlier;
    }
  where
    earlier : (m : ℕ) → m < suc n → over (stage m t) ≡ false
    earlier zero h = ap (λ x. ends x) e
    earlier (suc m) h = ap (λ x. over x) (stage_behind m t u e) ∙ l.earlier m (omega arith)

length_zero : (t : Term) → over t ≡ true → Length t 0
length_zero t e = record { last = e; earlier = λ m h. absurd (omega arith) }

runs_length : {P : Term → Type 0} {t : Term} → Runs P t → (n : ℕ) × Length t n
runs_length (done {t} e p) = (0, length_zero t (ap (λ x. ends x) e))
runs_length (leaves {t} n e) = (0, length_zero t (ap (λ x. ends x) e))
runs_length (goes {t} {u} e r) =
    let l = runs_length r in
    (suc l.0, length_behind t u l.0 e l.1)

-- the laws

readings_sems : (readings : List ℤ) → Sems (map number readings) (replicate (length readings) int)
readings_sems [] = tt
readings_sems (k ∷ readings) = ((k, refl), readings_sems readings)

pub not_both : {A : Type 0} (b : Bool) → b ≡ true → b ≡ false → A
not_both b p q = let z : ◌≡◌ {A = ℕ} 0 1 = cc in absurd (omega arith)

one_length : (t : Term) (m n : ℕ) → Length t m → Length t n → m ≡ n
one_length t m n k l =
    let g : ¬ (m < n) = λ h. not_both (over (stage m t)) k.last (l.earlier m h) in
    let s : ¬ (n < m) = λ h. not_both (over (stage n t)) l.last (k.earlier n h) in
    omega arith

pub has_length : HasLength
has_length =
    record {
      some_length = λ t τ readings h. runs_length (runs (replicate (length readings) int) (map number readings)
          (numbered 0 t) τ (readings_sems readings) h);
      one_length = one_length;
    }

-- a length by computation

-- no stage before n is over
abbrev pub none_before : ℕ → Term → Bool
none_before zero t = true
none_before (suc n) t = not (over (stage n t)) && none_before n t

both : (a b : Bool) → a && b ≡ true → (a ≡ true) × (b ≡ true)
both true b e = (refl, e)
both false b e = not_both false e refl

not_not : (b : Bool) → not b ≡ true → b ≡ false
not_not true e = sym e
not_not false e = refl

none_before_earlier : (n : ℕ) (t : Term) → none_before n t ≡ true → (m : ℕ) → m < n → over (stage m t) ≡ false
none_before_earlier zero t e m h = absurd (omega arith)
none_before_earlier (suc n) t e m h = either (ℕ_discrete m n) (none_before_earlier n t p.1 m)
  where
    p : (not (over (stage n t)) ≡ true) × (none_before n t ≡ true)
    p = both (not (over (stage n t))) (none_before n t) e

    either : Dec (m ≡ n) → (m < n → over (stage m t) ≡ false) → over (stage m t) ≡ false
    either (yes q) inner = subst (λ k. over (stage k t) ≡ false) (sym q) (not_not (over (stage n t)) p.0)
    either (no q) inner = inner (omega arith)

pub length_computed : (n : ℕ) (t : Term) → over (stage n t) ≡ true → none_before n t ≡ true → Length t n
length_computed n t e f = record { last = e; earlier = none_before_earlier n t f }
