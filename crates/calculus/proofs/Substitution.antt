-- Properties of substitution by closed terms.
use mathlib.Core.List.{List, [], ◌∷◌}
use mathlib.Core.Option.{none, some}
use mathlib.Core.Path.{◌≡◌, refl, sym, ◌∙◌, ap, subst}
use lib.ListN.{length}
use native.Mathlib.Omega.{arith}
use Prim.Native.Nat.{ℕ, zero, suc, ◌+◌, ◌≤◌, ◌<◌}
use Rattle.calculus.specs.Term.{Term, number, truth, variable, function, application, let_in, sum, at_most, if_else}
use Rattle.calculus.specs.Substitution.{find, or_else, put, Closed}

-- every term of a list is closed
abbrev pub AllClosed : List Term → Type 0
AllClosed [] = Unit {0}
AllClosed (v ∷ vs) = Closed 0 v × AllClosed vs

-- find

find_below : (k : ℕ) (vs : List Term) (d : ℕ) → d < k → find k vs d ≡ none
find_below zero vs d h = absurd (omega arith)
find_below (suc k) vs zero h = refl
find_below (suc k) vs (suc d) h = find_below k vs d (omega arith)

-- what is found stands in the list; what is not is bound nearer, or beyond the list
pub data Found (k : ℕ) (vs : List Term) (d : ℕ) : Type 0 where
  is_in : (v : Term) → find k vs d ≡ some v → Closed 0 v → Found k vs d
  is_near : find k vs d ≡ none → d < k → Found k vs d
  is_beyond : find k vs d ≡ none → length vs + k ≤ d → Found k vs d

pub found : (k : ℕ) (vs : List Term) (d : ℕ) → AllClosed vs → Found k vs d
found zero [] d c = is_beyond refl (omega arith)
found zero (v ∷ vs) zero c = is_in v refl c.0
found zero (v ∷ vs) (suc d) c =
    elim (found zero vs d c.1) [
      | is_in w e h ↦ is_in w e h
      | is_near e h ↦ absurd (omega arith)
      | is_beyond e h ↦ is_beyond e (omega arith)
    ]
found (suc k) vs zero c = is_near refl (omega arith)
found (suc k) vs (suc d) c =
    elim (found k vs d c) [
      | is_in w e h ↦ is_in w e h
      | is_near e h ↦ is_near e (omega arith)
      | is_beyond e h ↦ is_beyond e (omega arith)
    ]

-- Closed

pub closed_weaken : (j k : ℕ) (t : Term) → j ≤ k → Closed j t → Closed k t
closed_weaken j k (number i) h c = tt
closed_weaken j k (truth b) h c = tt
closed_weaken j k (variable d) h c = omega arith
closed_weaken j k (function n b) h c = closed_weaken (suc j) (suc k) b (omega arith) c
closed_weaken j k (application n f a) h c = (closed_weaken j k f h c.0, closed_weaken j k a h c.1)
closed_weaken j k (let_in n e b) h c = (closed_weaken j k e h c.0, closed_weaken (suc j) (suc k) b (omega arith) c.1)
closed_weaken j k (sum n l r) h c = (closed_weaken j k l h c.0, closed_weaken j k r h c.1)
closed_weaken j k (at_most n l r) h c = (closed_weaken j k l h c.0, closed_weaken j k r h c.1)
closed_weaken j k (if_else n i t e) h c =
    (closed_weaken j k i h c.0, closed_weaken j k t h c.1, closed_weaken j k e h c.2)

-- put

-- nothing is put into a closed term
pub put_closed : (j k : ℕ) (vs : List Term) (t : Term) → j ≤ k → Closed j t → put k vs t ≡ t
put_closed j k vs (number i) h c = refl
put_closed j k vs (truth b) h c = refl
put_closed j k vs (variable d) h c = ap (λ o. or_else o (variable d)) (find_below k vs d (omega arith))
put_closed j k vs (function n b) h c = ap (λ x. function n x) (put_closed (suc j) (suc k) vs b (omega arith) c)
put_closed j k vs (application n f a) h c =
    let p = put_closed j k vs f h c.0 in
    let q = put_closed j k vs a h c.1 in
    cc
put_closed j k vs (let_in n e b) h c =
    let p = put_closed j k vs e h c.0 in
    let q = put_closed (suc j) (suc k) vs b (omega arith) c.1 in
    cc
put_closed j k vs (sum n l r) h c =
    let p = put_closed j k vs l h c.0 in
    let q = put_closed j k vs r h c.1 in
    cc
put_closed j k vs (at_most n l r) h c =
    let p = put_closed j k vs l h c.0 in
    let q = put_closed j k vs r h c.1 in
    cc
put_closed j k vs (if_else n i t e) h c =
    let p = put_closed j k vs i h c.0 in
    let q = put_closed j k vs t h c.1 in
    let r = put_closed j k vs e h c.2 in
    cc

-- closed terms put for all but k variables leave k
put_closes_variable : (m k : ℕ) (vs : List Term) (d : ℕ) → m ≤ length vs + k → d < m → Found k vs d
    → Closed k (or_else (find k vs d) (variable d))
put_closes_variable m k vs d h c (is_in v e w) =
    subst (λ o. Closed k (or_else o (variable d))) (sym e) (closed_weaken 0 k v (omega arith) w)
put_closes_variable m k vs d h c (is_near e w) = subst (λ o. Closed k (or_else o (variable d))) (sym e) w
put_closes_variable m k vs d h c (is_beyond e w) = absurd (omega arith)

pub put_closes : (m k : ℕ) (vs : List Term) (t : Term) → m ≤ length vs + k → AllClosed vs → Closed m t
    → Closed k (put k vs t)
put_closes m k vs (number i) h a c = tt
put_closes m k vs (truth b) h a c = tt
put_closes m k vs (variable d) h a c = put_closes_variable m k vs d h c (found k vs d a)
put_closes m k vs (function n b) h a c = put_closes (suc m) (suc k) vs b (omega arith) a c
put_closes m k vs (application n f x) h a c = (put_closes m k vs f h a c.0, put_closes m k vs x h a c.1)
put_closes m k vs (let_in n e b) h a c = (
  put_closes m k vs e h a c.0,
  put_closes (suc m) (suc k) vs b (omega arith) a
      c.1,
)
put_closes m k vs (sum n l r) h a c = (put_closes m k vs l h a c.0, put_closes m k vs r h a c.1)
put_closes m k vs (at_most n l r) h a c = (put_closes m k vs l h a c.0, put_closes m k vs r h a c.1)
put_closes m k vs (if_else n i t e) h a c =
    (put_closes m k vs i h a c.0, put_closes m k vs t h a c.1, put_closes m k vs e h a c.2)

-- putting one term below a list is putting the longer list at once
data Split (k : ℕ) (w : Term) (vs : List Term) (d : ℕ) : Type 0 where
  in_list : (v : Term) → find (suc k) vs d ≡ some v → find k (w ∷ vs) d ≡ some v → Closed 0 v → Split k w vs d
  not_in_list : find (suc k) vs d ≡ none → find k (w ∷ vs) d ≡ find k (w ∷ []) d → Split k w vs d

split_behind : (w : Term) (vs : List Term) (d : ℕ) → Found zero vs d → Split zero w vs (suc d)
split_behind w vs d (is_in v e c) = in_list v e e c
split_behind w vs d (is_near e h) = absurd (omega arith)
split_behind w vs d (is_beyond e h) = not_in_list e e

split : (k : ℕ) (w : Term) (vs : List Term) (d : ℕ) → AllClosed vs → Split k w vs d
split zero w vs zero a = not_in_list refl refl
split zero w vs (suc d) a = split_behind w vs d (found zero vs d a)
split (suc k) w vs zero a = not_in_list refl refl
split (suc k) w vs (suc d) a =
    elim (split k w vs d a) [ in_list v e f c ↦ in_list v e f c | not_in_list e f ↦ not_in_list e f ]

put_put_variable : (k : ℕ) (w : Term) (vs : List Term) (d : ℕ) → Split k w vs d →
    put k (w ∷ []) (or_else (find (suc k) vs d) (variable d)) ≡ or_else (find k (w ∷ vs) d) (variable d)
put_put_variable k w vs d (in_list v e f c) =
    ap (λ o. put k (w ∷ []) (or_else o (variable d))) e ∙ put_closed 0 k (w ∷ []) v (omega arith) c
    ∙ sym (ap (λ o. or_else o (variable d)) f)
put_put_variable k w vs d (not_in_list e f) =
    ap (λ o. put k (w ∷ []) (or_else o (variable d))) e ∙ sym (ap (λ o. or_else o (variable d)) f)

pub put_put : (k : ℕ) (w : Term) (vs : List Term) (t : Term) → AllClosed vs
    → put k (w ∷ []) (put (suc k) vs t) ≡ put k (w ∷ vs) t
put_put k w vs (number i) a = refl
put_put k w vs (truth b) a = refl
put_put k w vs (variable d) a = put_put_variable k w vs d (split k w vs d a)
put_put k w vs (function n b) a = ap (λ x. function n x) (put_put (suc k) w vs b a)
put_put k w vs (application n f x) a =
    let p = put_put k w vs f a in
    let q = put_put k w vs x a in
    cc
put_put k w vs (let_in n e b) a =
    let p = put_put k w vs e a in
    let q = put_put (suc k) w vs b a in
    cc
put_put k w vs (sum n l r) a =
    let p = put_put k w vs l a in
    let q = put_put k w vs r a in
    cc
put_put k w vs (at_most n l r) a =
    let p = put_put k w vs l a in
    let q = put_put k w vs r a in
    cc
put_put k w vs (if_else n i t e) a =
    let p = put_put k w vs i a in
    let q = put_put k w vs t a in
    let r = put_put k w vs e a in
    cc
