-- Which names are in force, and the tree of a rule that a text's tree stands for.
use Rattle.std.specs.Prelude.{ℕ, suc, Bool, true, false, cond, ◌&&◌, List, [], ◌∷◌, ◌==◌}
use Rattle.std.proofs.Math.Option.{Option, some, none}
use Rattle.syntax.specs.Tree.{Tree}
use Rattle.grammar.specs.Token.{Name}
use Rattle.grammar.specs.Grammar.{Expr, literal, boolean, used, lambda, apply, let_in, plus, at_most, if_else}

-- whether two names have the same bytes
abbrev pub same : Name → Name → Bool
same [] [] = true
same [] (c ∷ y) = false
same (b ∷ x) [] = false
same (b ∷ x) (c ∷ y) = b == c && same x y

abbrev pub next : Option ℕ → Option ℕ
next none = none
next (some d) = some (suc d)

-- The names in force, the one that was opened last first, the readings' behind all opened ones. An
-- equal name that stands before it hides a name. The distance is how many names stand before it.
abbrev pub distance : List Name → Name → Option ℕ
distance [] x = none
distance (y ∷ names) x = cond (same x y) (some 0) (next (distance names x))

abbrev pub one : (Tree → Tree) → Option Tree → Option Tree
one make none = none
one make (some t) = some (make t)

abbrev pub two : (Tree → Tree → Tree) → Option Tree → Option Tree → Option Tree
two make none u = none
two make (some t) u = one (make t) u

abbrev pub three : (Tree → Tree → Tree → Tree) → Option Tree → Option Tree → Option Tree → Option Tree
three make none u v = none
three make (some t) u v = two (make t) u v

abbrev pub variable_at : Option ℕ → Option Tree
variable_at none = none
variable_at (some d) = some (Tree.variable d)

-- The tree with distances for names; none where a used name is not in force. `fun` and `let` open
-- their name in their body only.
abbrev pub resolved : List Name → Expr → Option Tree
resolved names (literal k) = some (Tree.number k)
resolved names (boolean b) = some (Tree.truth b)
resolved names (used x) = variable_at (distance names x)
resolved names (lambda x e) = one Tree.function (resolved (x ∷ names) e)
resolved names (apply e f) = two Tree.application (resolved names e) (resolved names f)
resolved names (let_in x e f) = two Tree.let_in (resolved names e) (resolved (x ∷ names) f)
resolved names (plus e f) = two Tree.sum (resolved names e) (resolved names f)
resolved names (at_most e f) = two Tree.at_most (resolved names e) (resolved names f)
resolved names (if_else e f g) = three Tree.if_else (resolved names e) (resolved names f) (resolved names g)
