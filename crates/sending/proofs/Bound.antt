-- A tree whose names are in force and whose numbers are in range has all its variables bound.
use Rattle.std.proofs.Common.{◌≡◌, ℕ, ◌+◌, ◌<◌, Bool, true, false, cond, List, [], ◌∷◌, length, subst, arith}
use mathlib.Core.Option.{Option, some, none}
use Rattle.syntax.specs.Tree.{Tree}
use Rattle.grammar.specs.Token.{Name}
use Rattle.grammar.specs.Grammar.{Expr, literal, boolean, used, lambda, apply, let_in, plus, at_most, if_else}
use Rattle.grammar.specs.Names.{same, next, distance, one, two, three, variable_at, resolved}
use Rattle.record.specs.Proper.{Proper}
use Rattle.sending.proofs.Numbers.{InRange}
use Rattle.sending.proofs.Ranges.{text_fits}

-- a distance, if there is one, is below this
abbrev Below : ℕ → Option ℕ → Type 0
Below b none = Unit {0}
Below b (some d) = d < b

next_below : (b : ℕ) (o : Option ℕ) → Below b o → Below (b + 1) (next o)
next_below b none h = tt
next_below b (some d) h = omega arith

distance_below : (names : List Name) (x : Name) → Below (length names) (distance names x)
distance_below [] x = tt
distance_below (y ∷ names) x = by (same x y) (distance_below names x)
  where
    long : length names + 1 ≡ length (y ∷ names)
    long = omega arith

    by : (b : Bool) →
        Below (length names) (distance names x) →
        Below (length (y ∷ names)) (cond b (some 0) (next (distance names x)))
    by true h = omega arith
    by false h = subst (λ n. Below n (next (distance names x))) long (next_below (length names) (distance names x) h)

-- a tree, if there is one, is proper with so many variables in force
abbrev pub IfProper : ℕ → Option Tree → Type 0
IfProper b none = Unit {0}
IfProper b (some t) = Proper b t

variable_proper : (b : ℕ) (o : Option ℕ) → Below b o → IfProper b (variable_at o)
variable_proper b none h = tt
variable_proper b (some d) h = h

function_proper : (b : ℕ) (o : Option Tree) → IfProper (b + 1) o → IfProper b (one Tree.function o)
function_proper b none h = tt
function_proper b (some t) h = h

module _
    (b c : ℕ)
    (make : Tree → Tree → Tree)
    (made : (t u : Tree) → Proper b t → Proper c u → Proper b (make t u))
  where
    two_proper : (o p : Option Tree) → IfProper b o → IfProper c p → IfProper b (two make o p)
    two_proper none p h k = tt
    two_proper (some t) none h k = tt
    two_proper (some t) (some u) h k = made t u h k

if_proper : (b : ℕ) (o p q : Option Tree) →
    IfProper b o →
    IfProper b p →
    IfProper b q →
    IfProper b (three Tree.if_else o p q)
if_proper b none p q h k l = tt
if_proper b (some t) none q h k l = tt
if_proper b (some t) (some u) none h k l = tt
if_proper b (some t) (some u) (some v) h k l = (h, k, l)

-- a name that is opened is one variable more
opened : (names : List Name) (x : Name) (o : Option Tree) → IfProper (length (x ∷ names)) o
    → IfProper (length names + 1) o
opened names x o h = let long : length (x ∷ names) ≡ length names + 1 = omega arith in subst (λ n. IfProper n o) long h

pub resolved_proper : (names : List Name) (e : Expr) → InRange e → IfProper (length names) (resolved names e)
resolved_proper names (literal k) h = text_fits k h
resolved_proper names (boolean b) h = tt
resolved_proper names (used x) h = variable_proper (length names) (distance names x) (distance_below names x)
resolved_proper names (lambda x e) h =
    let body = resolved (x ∷ names) e in
    function_proper (length names) body (opened names x body (resolved_proper (x ∷ names) e h))
resolved_proper names (apply e f) h =
    let b = length names in
    let one = resolved names e in
    let other = resolved names f in
    two_proper b b Tree.application (λ t u p q. (p, q)) one other (resolved_proper names e h.0)
    (resolved_proper names f h.1)
resolved_proper names (let_in x e f) h =
    let b = length names in
    let bound = resolved names e in
    let body = resolved (x ∷ names) f in
    let inner = opened names x body (resolved_proper (x ∷ names) f h.1) in
    two_proper b (b + 1) Tree.let_in (λ t u p q. (p, q)) bound body (resolved_proper names e h.0) inner
resolved_proper names (plus e f) h =
    let b = length names in
    let one = resolved names e in
    let other = resolved names f in
    two_proper b b Tree.sum (λ t u p q. (p, q)) one other (resolved_proper names e h.0) (resolved_proper names f h.1)
resolved_proper names (at_most e f) h =
    let b = length names in
    let one = resolved names e in
    let other = resolved names f in
    two_proper b b Tree.at_most (λ t u p q. (p, q)) one other (resolved_proper names e h.0)
    (resolved_proper names f h.1)
resolved_proper names (if_else e f g) h =
    let whether = resolved_proper names e h.0 in
    let one = resolved_proper names f h.1 in
    let other = resolved_proper names g h.2 in
    if_proper (length names) (resolved names e) (resolved names f) (resolved names g) whether one other
