-- Going over a tree that stands in the bytes.
use Rattle.std.proofs.Common.{◌≡◌, ℕ, ◌+◌, ◌<◌, ◌≤◌, true, false, List, ◌∷◌, ◌++◌, length, get_or, sym, ap, ◌∙◌}
use Rattle.std.proofs.Common.{subst, arith, length-append}
use mathlib.Core.Option.{Option, some, none}
use Rattle.syntax.specs.Tree.{Tree, nodes, number, truth, variable, function, application, let_in, sum, at_most}
use Rattle.syntax.specs.Tree.{if_else}
use Rattle.syntax.specs.Record.{encode}
use Rattle.syntax.specs.declared.node.Node.{Node}
use Rattle.syntax.specs.declared.node.Node.TheVariants.{Number, Truth, Variable, Function, Application, LetIn, Sum}
use Rattle.syntax.specs.declared.node.Node.TheVariants.{AtMost, IfElse}
use Rattle.record.specs.Proper.{Proper}
use Rattle.record.specs.Bytes.{Stands}
use Rattle.record.specs.Questions.{width, children, Refused, here, later}
use Rattle.record.proofs.Asking.{kind, opening, Fine, Opens, passes, width_kind}
use Rattle.record.proofs.Standing.{stands_inside, stands_split}
use Rattle.record.proofs.Holding.{some_node}

-- past a node: what is refused behind it is refused
pub past : (s : List ℕ) (b n p k q : ℕ) (more : List ℕ) (h : Node) → b ≤ 65536 → Opens s b n p h
    → Refused s (children (kind h) b ++ more) (n + 1) (p + length (opening h)) k q → Refused s (b ∷ more) n p k q
past s b n p k q more h small o r =
    let is = o.bytes.1 in
    let w : p + length (opening h) ≡ p + width (get_or s p 0) = ap (λ m. p + m) (sym (ap width is ∙ width_kind h)) in
    let c : children (kind h) b ++ more ≡ children (get_or s p 0) b ++ more = ap (λ m. children m b ++ more) (sym is) in
    later (passes s b n p h small o) (subst (λ m. Refused s (children (get_or s p 0) b ++ more) (n + 1) m k q) w
    (subst (λ l. Refused s l (n + 1) (p + length (opening h)) k q) c r))

pub some_none : {A : Type 0} {x : A} {o : Option A} → o ≡ some x → o ≡ none → ⊥
some_none p q = let z : ◌≡◌ {A = ℕ} 0 1 = cc in omega arith

-- and what is refused at or behind a node that passes is refused behind it
pub behind : (s : List ℕ) (b n p k q : ℕ) (more : List ℕ) (h : Node) → b ≤ 65536 → Opens s b n p h
    → Refused s (b ∷ more) n p k q → Refused s (children (kind h) b ++ more) (n + 1) (p + length (opening h)) k q
behind s b n p k q more h small o (here no_to) = absurd (some_none no_to (passes s b n p h small o))
behind s b n p k q more h small o (later met r) =
    let is = o.bytes.1 in
    let w : p + width (get_or s p 0) ≡ p + length (opening h) = ap (λ m. p + m) (ap width is ∙ width_kind h) in
    let c : children (get_or s p 0) b ++ more ≡ children (kind h) b ++ more = ap (λ m. children m b ++ more) is in
    subst (λ m. Refused s (children (kind h) b ++ more) (n + 1) m k q) w
    (subst (λ l. Refused s l (n + 1) (p + width (get_or s p 0)) k q) c r)

-- ── a whole tree ──

abbrev Both : Type 0 → Type 0 → Type 0
Both A B = (A → B) × (B → A)

then : {A B C : Type 0} → Both A B → Both B C → Both A C
then f g = (λ a. g.0 (f.0 a), λ c. f.1 (g.1 c))

moved : (s more : List ℕ) (n n' p p' k q : ℕ) → n ≡ n' → p ≡ p' → Both (Refused s more n p k q)
    (Refused s more n' p' k q)
moved s more n n' p p' k q a b = (
  λ r. subst (λ m. Refused s more m p' k q) a (subst (λ m. Refused s more n m k q) b r),
  λ r. subst (λ m. Refused s more m p k q) (sym a) (subst (λ m. Refused s more n' m k q) (sym b) r),
)

node : (s : List ℕ) (b n p k q : ℕ) (more : List ℕ) (h : Node) → b ≤ n + 8 → Opens s b n p h
    → Both (Refused s (b ∷ more) n p k q) (Refused s (children (kind h) b ++ more) (n + 1) (p + length (opening h)) k q)
node s b n p k q more h small o =
    let few = o.among in
    (behind s b n p k q more h (omega arith) o, past s b n p k q more h (omega arith) o)

opens : (s : List ℕ) (b n p : ℕ) (h : Node) → n < 512 → Stands s p (opening h) → Fine b h → Opens s b n p h
opens s b n p h few w f = record { among = few; bytes = w; fine = f }

-- a tree under b variables, its nodes among the first 512: what is refused from its root on is what is refused behind
-- it
abbrev Over : List ℕ → ℕ → ℕ → ℕ → Tree → Type 0
Over s b n p t = (k q : ℕ) (more : List ℕ) → Both (Refused s (b ∷ more) n p k q) (Refused s more (n + nodes t)
    (p + length (encode t)) k q)

over_two : (s : List ℕ) (b c d n p z : ℕ) (t u : Tree)
    → ((k q : ℕ) (more : List ℕ) → Both (Refused s (b ∷ more) n p k q) (Refused s (c ∷ d ∷ more) (n + 1) (p + 1) k q))
    → Over s c (n + 1) (p + 1) t → Over s d (n + 1 + nodes t) (p + 1 + length (encode t)) u
    → (k q : ℕ) (more : List ℕ) → Both (Refused s (b ∷ more) n p k q) (Refused s more (n + (1 + (nodes t + nodes u)))
    (p + length (z ∷ (encode t ++ encode u))) k q)
over_two s b c d n p z t u first one two k q more =
    let long = length-append (encode t) (encode u) in
    then (first k q more) (then (one k q (d ∷ more)) (then (two k q more) (moved s more _ _ _ _ k q (omega arith)
    (omega arith))))

pub over : (t : Tree) (s : List ℕ) (b n p : ℕ) → b ≤ n + 8 → n + nodes t ≤ 512 → Stands s p (encode t) → Proper b t
    → Over s b n p t
over (number i) s b n p small few w f k q more = node s b n p k q more (Number i) small
    (opens s b n p (Number i) (omega arith) w f)
over (truth false) s b n p small few w f k q more = node s b n p k q more (Truth false) small
    (opens s b n p (Truth false) (omega arith) w tt)
over (truth true) s b n p small few w f k q more = node s b n p k q more (Truth true) small
    (opens s b n p (Truth true) (omega arith) w tt)
over (variable d) s b n p small few w f k q more = node s b n p k q more (Variable d) small
    (opens s b n p (Variable d) (omega arith) w f)
over (function t) s b n p small few w f k q more =
    let h = w.2 in
    let inside = stands_inside s (p + 1) (encode t) h in
    let o = opens s b n p (Function 0) (omega arith) (w.0, w.1, (let z : p + 1 ≤ length s = omega arith in z)) tt in
    then (node s b n p k q more (Function 0) small o)
    (then (over t s (b + 1) (n + 1) (p + 1) (omega arith) (omega arith) h f k q more)
    (moved s more _ _ _ _ k q (omega arith) (omega arith)))
over (application t u) s b n p small few w f k q more =
    let h = stands_split s (p + 1) (encode t) (encode u) w.2 in
    let inside = stands_inside s (p + 1) (encode t) h.0 in
    let o = opens s b n p (Application 0 0) (omega arith) (w.0, w.1, (let z : p + 1 ≤ length s = omega arith in z)) tt
    in
    over_two s b b b n p 6 t u (λ k q more. node s b n p k q more (Application 0 0) small o)
    (over t s b (n + 1) (p + 1) (omega arith) (omega arith) h.0 f.0) (over u s b (n + 1 + nodes t)
    (p + 1 + length (encode t)) (omega arith) (omega arith) h.1 f.1) k q more
over (let_in t u) s b n p small few w f k q more =
    let h = stands_split s (p + 1) (encode t) (encode u) w.2 in
    let inside = stands_inside s (p + 1) (encode t) h.0 in
    let o = opens s b n p (LetIn 0 0) (omega arith) (w.0, w.1, (let z : p + 1 ≤ length s = omega arith in z)) tt in
    over_two s b b (b + 1) n p 7 t u (λ k q more. node s b n p k q more (LetIn 0 0) small o)
    (over t s b (n + 1) (p + 1) (omega arith) (omega arith) h.0 f.0) (over u s (b + 1) (n + 1 + nodes t)
    (p + 1 + length (encode t)) (omega (arith, some_node t)) (omega arith) h.1 f.1) k q more
over (sum t u) s b n p small few w f k q more =
    let h = stands_split s (p + 1) (encode t) (encode u) w.2 in
    let inside = stands_inside s (p + 1) (encode t) h.0 in
    let o = opens s b n p (Sum 0 0) (omega arith) (w.0, w.1, (let z : p + 1 ≤ length s = omega arith in z)) tt in
    over_two s b b b n p 8 t u (λ k q more. node s b n p k q more (Sum 0 0) small o)
    (over t s b (n + 1) (p + 1) (omega arith) (omega arith) h.0 f.0) (over u s b (n + 1 + nodes t)
    (p + 1 + length (encode t)) (omega arith) (omega arith) h.1 f.1) k q more
over (at_most t u) s b n p small few w f k q more =
    let h = stands_split s (p + 1) (encode t) (encode u) w.2 in
    let inside = stands_inside s (p + 1) (encode t) h.0 in
    let o = opens s b n p (AtMost 0 0) (omega arith) (w.0, w.1, (let z : p + 1 ≤ length s = omega arith in z)) tt in
    over_two s b b b n p 9 t u (λ k q more. node s b n p k q more (AtMost 0 0) small o)
    (over t s b (n + 1) (p + 1) (omega arith) (omega arith) h.0 f.0) (over u s b (n + 1 + nodes t)
    (p + 1 + length (encode t)) (omega arith) (omega arith) h.1 f.1) k q more
over (if_else t u v) s b n p small few w f k q more =
    let h = stands_split s (p + 1) (encode t) (encode u ++ encode v) w.2 in
    let g = stands_split s (p + 1 + length (encode t)) (encode u) (encode v) h.1 in
    let inside = stands_inside s (p + 1) (encode t) h.0 in
    let o = opens s b n p (IfElse 0 0 0) (omega arith) (w.0, w.1, (let z : p + 1 ≤ length s = omega arith in z)) tt in
    let long = length-append (encode t) (encode u ++ encode v) in
    let longer = length-append (encode u) (encode v) in
    then (node s b n p k q more (IfElse 0 0 0) small o)
    (then (over t s b (n + 1) (p + 1) (omega arith) (omega arith) h.0 f.0 k q (b ∷ b ∷ more))
    (then (over u s b (n + 1 + nodes t) (p + 1 + length (encode t)) (omega arith) (omega arith) g.0 f.1 k q (b ∷ more))
    (then (over v s b (n + 1 + nodes t + nodes u) (p + 1 + length (encode t) + length (encode u)) (omega arith)
    (omega arith) g.1 f.2 k q more)
    (moved s more _ _ _ _ k q (omega arith) (omega arith)))))
