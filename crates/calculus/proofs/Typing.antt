-- Properties of typing: closed, weakened, kept by substitution.
use mathlib.Core.List.{List, [], ◌∷◌, ◌++◌, map}
use mathlib.Core.Option.{none, some}
use mathlib.Core.Path.{◌≡◌, refl, sym, subst}
use lib.IntN.{ℤ}
use lib.ListN.{length, replicate, length-replicate}
use native.Mathlib.Omega.{arith}
use Prim.Native.Nat.{ℕ, zero, suc, ◌<◌}
use Rattle.syntax.specs.Tree.{Tree}
use Rattle.calculus.specs.Term.{Term, number, truth, variable, function, application, let_in, sum, at_most, if_else}
use Rattle.calculus.specs.Term.{numbered}
use Rattle.calculus.specs.Substitution.{find, or_else, put, put_one, Closed}
use Rattle.calculus.specs.Types.{Ty, int, bool, ◌⇒◌, at, Has, RuleHas}
use Rattle.calculus.specs.Stages.{start}
use Rattle.calculus.specs.Laws.{TypedIsClosed}

-- at

none≢some : {τ : Ty} → none ≡ some τ → ⊥
none≢some {τ} e = let z : ◌≡◌ {A = ℕ} 0 1 = cc in omega arith

at_below : (Γ : List Ty) (d : ℕ) (τ : Ty) → at Γ d ≡ some τ → d < length Γ
at_below [] d τ e = absurd (none≢some e)
at_below (p ∷ Γ) zero τ e = omega arith
at_below (p ∷ Γ) (suc d) τ e = let h = at_below Γ d τ e in omega arith

at-++ : (Γ Δ : List Ty) (d : ℕ) (τ : Ty) → at Γ d ≡ some τ → at (Γ ++ Δ) d ≡ some τ
at-++ [] Δ d τ e = absurd (none≢some e)
at-++ (p ∷ Γ) Δ zero τ e = e
at-++ (p ∷ Γ) Δ (suc d) τ e = at-++ Γ Δ d τ e

-- a typed term is closed

pub has_closed : (Γ : List Ty) (t : Term) (τ : Ty) → Has Γ t τ → Closed (length Γ) t
has_closed Γ (number k) τ h = tt
has_closed Γ (truth b) τ h = tt
has_closed Γ (variable d) τ h = at_below Γ d τ h
has_closed Γ (function n b) τ (p, s, e, h) = has_closed (p ∷ Γ) b s h
has_closed Γ (application n f a) τ (p, h, i) = (has_closed Γ f (p ⇒ τ) h, has_closed Γ a p i)
has_closed Γ (let_in n e b) τ (p, h, i) = (has_closed Γ e p h, has_closed (p ∷ Γ) b τ i)
has_closed Γ (sum n l r) τ (e, h, i) = (has_closed Γ l int h, has_closed Γ r int i)
has_closed Γ (at_most n l r) τ (e, h, i) = (has_closed Γ l int h, has_closed Γ r int i)
has_closed Γ (if_else n c t e) τ (h, i, j) = (has_closed Γ c bool h, has_closed Γ t τ i, has_closed Γ e τ j)

-- more variables in force further out change no type

pub has_weaken : (Γ Δ : List Ty) (t : Term) (τ : Ty) → Has Γ t τ → Has (Γ ++ Δ) t τ
has_weaken Γ Δ (number k) τ h = h
has_weaken Γ Δ (truth b) τ h = h
has_weaken Γ Δ (variable d) τ h = at-++ Γ Δ d τ h
has_weaken Γ Δ (function n b) τ (p, s, e, h) = (p, s, e, has_weaken (p ∷ Γ) Δ b s h)
has_weaken Γ Δ (application n f a) τ (p, h, i) = (p, has_weaken Γ Δ f (p ⇒ τ) h, has_weaken Γ Δ a p i)
has_weaken Γ Δ (let_in n e b) τ (p, h, i) = (p, has_weaken Γ Δ e p h, has_weaken (p ∷ Γ) Δ b τ i)
has_weaken Γ Δ (sum n l r) τ (e, h, i) = (e, has_weaken Γ Δ l int h, has_weaken Γ Δ r int i)
has_weaken Γ Δ (at_most n l r) τ (e, h, i) = (e, has_weaken Γ Δ l int h, has_weaken Γ Δ r int i)
has_weaken Γ Δ (if_else n c t e) τ (h, i, j) = (has_weaken Γ Δ c bool h, has_weaken Γ Δ t τ i, has_weaken Γ Δ e τ j)

-- substitution keeps types

-- each term of vs has its type in Γ
abbrev pub Typed : List Term → List Ty → Type 0
Typed [] [] = Unit {0}
Typed [] (p ∷ Γ) = ⊥
Typed (v ∷ vs) [] = ⊥
Typed (v ∷ vs) (p ∷ Γ) = Has [] v p × Typed vs Γ

put_has_found : (Δ Γ : List Ty) (vs : List Term) (d : ℕ) (τ : Ty) → Typed vs Γ → at Γ d ≡ some τ → (v : Term)
    × (find zero vs d ≡ some v) × Has Δ v τ
put_has_found Δ [] vs d τ h e = absurd (none≢some e)
put_has_found Δ (p ∷ Γ) [] d τ h e = absurd h
put_has_found Δ (p ∷ Γ) (v ∷ vs) zero τ h e =
    let q : p ≡ τ = cc in
    (v, refl, has_weaken [] Δ v τ (subst (λ x. Has [] v x) q h.0))
put_has_found Δ (p ∷ Γ) (v ∷ vs) (suc d) τ h e = put_has_found Δ Γ vs d τ h.1 e

pub data Variable (Δ : List Ty) (k : ℕ) (vs : List Term) (d : ℕ) (τ : Ty) : Type 0 where
  stays : find k vs d ≡ none → at Δ d ≡ some τ → Variable Δ k vs d τ
  is_put : (v : Term) → find k vs d ≡ some v → ((Θ : List Ty) → Has Θ v τ) → Variable Δ k vs d τ

typed_variable : (Δ Γ : List Ty) (vs : List Term) (d : ℕ) (τ : Ty) → Typed vs Γ → at (Δ ++ Γ) d ≡ some τ
    → Variable Δ (length Δ) vs d τ
typed_variable [] Γ vs d τ h e =
    is_put (put_has_found [] Γ vs d τ h e).0 (put_has_found [] Γ vs d τ h e).1
    (λ Θ. has_weaken [] Θ (put_has_found [] Γ vs d τ h e).0 τ (put_has_found [] Γ vs d τ h e).2)
typed_variable (p ∷ Δ) Γ vs zero τ h e = stays refl e
typed_variable (p ∷ Δ) Γ vs (suc d) τ h e =
    elim (typed_variable Δ Γ vs d τ h e) [ stays f i ↦ stays f i | is_put v f i ↦ is_put v f i ]

put_has_variable : (Δ : List Ty) (k : ℕ) (vs : List Term) (d : ℕ) (τ : Ty) → Variable Δ k vs d τ
    → Has Δ (or_else (find k vs d) (variable d)) τ
put_has_variable Δ k vs d τ (stays e h) = subst (λ o. Has Δ (or_else o (variable d)) τ) (sym e) h
put_has_variable Δ k vs d τ (is_put v e h) = subst (λ o. Has Δ (or_else o (variable d)) τ) (sym e) (h Δ)

pub put_has : (Δ Γ : List Ty) (vs : List Term) (t : Term) (τ : Ty) → Typed vs Γ → Has (Δ ++ Γ) t τ
    → Has Δ (put (length Δ) vs t) τ
put_has Δ Γ vs (number k) τ v h = h
put_has Δ Γ vs (truth b) τ v h = h
put_has Δ Γ vs (variable d) τ v h = put_has_variable Δ (length Δ) vs d τ (typed_variable Δ Γ vs d τ v h)
put_has Δ Γ vs (function n b) τ v (p, s, e, h) = (p, s, e, put_has (p ∷ Δ) Γ vs b s v h)
put_has Δ Γ vs (application n f a) τ v (p, h, i) = (p, put_has Δ Γ vs f (p ⇒ τ) v h, put_has Δ Γ vs a p v i)
put_has Δ Γ vs (let_in n e b) τ v (p, h, i) = (p, put_has Δ Γ vs e p v h, put_has (p ∷ Δ) Γ vs b τ v i)
put_has Δ Γ vs (sum n l r) τ v (e, h, i) = (e, put_has Δ Γ vs l int v h, put_has Δ Γ vs r int v i)
put_has Δ Γ vs (at_most n l r) τ v (e, h, i) = (e, put_has Δ Γ vs l int v h, put_has Δ Γ vs r int v i)
put_has Δ Γ vs (if_else n c t e) τ v (h, i, j) = (
  put_has Δ Γ vs c bool v h,
  put_has Δ Γ vs t τ v i,
  put_has Δ Γ vs e τ v j,
)

pub put_one_has : (p τ : Ty) (v b : Term) → Has [] v p → Has (p ∷ []) b τ → Has [] (put_one v b) τ
put_one_has p τ v b h i = put_has [] (p ∷ []) (v ∷ []) b τ (h, tt) i

-- readings are int

pub readings_typed : (readings : List ℤ) → Typed (map number readings) (replicate (length readings) int)
readings_typed [] = tt
readings_typed (k ∷ readings) = (refl, readings_typed readings)

pub start_has : (t : Tree) (τ : Ty) (readings : List ℤ) → RuleHas (length readings) t τ → Has [] (start readings t) τ
start_has t τ readings h = put_has [] (replicate (length readings) int) (map number readings) (numbered 0 t) τ
    (readings_typed readings) h

pub typed_is_closed : TypedIsClosed
typed_is_closed r t τ h =
    subst (λ n. Closed n (numbered 0 t)) (length-replicate r int) (has_closed (replicate r int) (numbered 0 t) τ h)
