-- Closed terms put for variables.
use Rattle.std.specs.Prelude.{List, [], ◌∷◌, ℕ, zero, suc, ◌≤◌}
use Rattle.std.proofs.Math.Option.{Option, none, some}
use Rattle.calculus.specs.Term.{Term, number, truth, variable, function, application, let_in, sum, at_most, if_else}

-- what stands in vs for distance d under k binders; none where d is one of the k, or beyond vs
abbrev pub find : ℕ → List Term → ℕ → Option Term
find zero [] d = none
find zero (v ∷ vs) zero = some v
find zero (v ∷ vs) (suc d) = find zero vs d
find (suc k) vs zero = none
find (suc k) vs (suc d) = find k vs d

abbrev pub or_else : Option Term → Term → Term
or_else none t = t
or_else (some v) t = v

-- Substitution: the closed terms vs put for the variables that stand just outside k binders, the first for the
-- innermost of them. Nothing is renamed or shifted, since what is put in has no free variables.
abbrev pub put : ℕ → List Term → Term → Term
put k vs (number i) = number i
put k vs (truth b) = truth b
put k vs (variable d) = or_else (find k vs d) (variable d)
put k vs (function n b) = function n (put (suc k) vs b)
put k vs (application n f a) = application n (put k vs f) (put k vs a)
put k vs (let_in n e b) = let_in n (put k vs e) (put (suc k) vs b)
put k vs (sum n l r) = sum n (put k vs l) (put k vs r)
put k vs (at_most n l r) = at_most n (put k vs l) (put k vs r)
put k vs (if_else n c t e) = if_else n (put k vs c) (put k vs t) (put k vs e)

--   b[v/x]: the value v put for the variable that b's function or let binds
abbrev pub put_one : Term → Term → Term
put_one v b = put zero (v ∷ []) b

-- every variable is bound: its distance is below the binders around it and k more
abbrev pub Closed : ℕ → Term → Type 0
Closed k (number i) = Unit {0}
Closed k (truth b) = Unit {0}
Closed k (variable d) = suc d ≤ k
Closed k (function n b) = Closed (suc k) b
Closed k (application n f a) = Closed k f × Closed k a
Closed k (let_in n e b) = Closed k e × Closed (suc k) b
Closed k (sum n l r) = Closed k l × Closed k r
Closed k (at_most n l r) = Closed k l × Closed k r
Closed k (if_else n c t e) = Closed k c × Closed k t × Closed k e
