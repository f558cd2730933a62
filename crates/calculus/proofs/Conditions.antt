-- Types node by node are the types of terms.
use mathlib.Core.Bool.{cond}
use mathlib.Core.List.{List, ◌∷◌}
use mathlib.Core.Path.{◌≡◌, refl, sym, ◌∙◌, ap, subst}
use borrow.Author.Tests.{lt-ltb, le-ltb}
use lib.Dec.{ltb}
use lib.ListN.{replicate}
use native.Mathlib.Omega.{arith}
use Prim.Native.Nat.{ℕ, suc, ◌+◌, ◌≤◌, ◌<◌}
use Rattle.syntax.specs.Tree.{Tree, number, truth, variable, function, application, let_in, sum, at_most, if_else}
use Rattle.syntax.specs.Tree.{nodes}
use Rattle.calculus.specs.Term.{numbered}
use Rattle.calculus.specs.Types.{Ty, int, bool, ◌⇒◌, Has, RuleHas}
use Rattle.calculus.specs.Conditions.{Assignment, Met, Meets, CannotMeet}
use Rattle.calculus.specs.General.{ComesFrom, MostGeneral}
use Rattle.calculus.specs.Laws.{TypedByConditions}

-- a tree has a node
nodes_pos : (t : Tree) → 0 < nodes t
nodes_pos (number k) = omega arith
nodes_pos (truth b) = omega arith
nodes_pos (variable d) = omega arith
nodes_pos (function b) = omega arith
nodes_pos (application f x) = omega arith
nodes_pos (let_in e b) = omega arith
nodes_pos (sum l r) = omega arith
nodes_pos (at_most l r) = omega arith
nodes_pos (if_else c t e) = omega arith

-- an assignment that meets all conditions gives a type

pub met_has : (a : Assignment) (Γ : List Ty) (k i : ℕ) (t : Tree) → i + nodes t ≤ suc k → Met a Γ k i t
    → Has Γ (numbered i t) (a.type_of i)
met_has a Γ k i (number n) h m = m (omega arith)
met_has a Γ k i (truth b) h m = m (omega arith)
met_has a Γ k i (variable d) h m = m (omega arith)
met_has a Γ k i (function b) h m = (
  a.parameter_of i,
  a.type_of (i + 1),
  m.0 (omega arith),
  met_has a (a.parameter_of i ∷ Γ) k (i + 1) b
      (omega arith) m.1,
)
met_has a Γ k i (application f x) h m = (
  a.type_of (i + (1 + nodes f)),
  subst (λ τ. Has Γ (numbered (i + 1) f) τ) (m.0 (omega arith)) (met_has a Γ k (i + 1) f (omega arith) m.1),
  met_has a Γ k (i + (1 + nodes f)) x (omega arith) m.2,
)
met_has a Γ k i (let_in e b) h m = (
  a.type_of (i + 1),
  met_has a Γ k (i + 1) e (omega arith) m.1,
  subst (λ τ. Has (a.type_of (i + 1) ∷ Γ) (numbered (i + (1 + nodes e)) b) τ) (sym (m.0 (omega arith)))
      (met_has a (a.type_of (i + 1) ∷ Γ) k (i + (1 + nodes e)) b (omega arith) m.2),
)
met_has a Γ k i (sum l r) h m =
    let own = m.0 (omega arith) in (
      own.0,
      subst (λ τ. Has Γ (numbered (i + 1) l) τ) own.1 (met_has a Γ k (i + 1) l (omega arith) m.1),
      subst (λ τ. Has Γ (numbered (i + (1 + nodes l)) r) τ) own.2 (met_has a Γ k (i + (1 + nodes l)) r
          (omega arith) m.2),
    )
met_has a Γ k i (at_most l r) h m =
    let own = m.0 (omega arith) in (
      own.0,
      subst (λ τ. Has Γ (numbered (i + 1) l) τ) own.1 (met_has a Γ k (i + 1) l (omega arith) m.1),
      subst (λ τ. Has Γ (numbered (i + (1 + nodes l)) r) τ) own.2 (met_has a Γ k (i + (1 + nodes l)) r
          (omega arith) m.2),
    )
met_has a Γ k i (if_else c t e) h m =
    let own = m.0 (omega arith) in (
      subst (λ τ. Has Γ (numbered (i + 1) c) τ) own.0 (met_has a Γ k (i + 1) c (omega arith) m.1),
      subst (λ τ. Has Γ (numbered (i + (1 + nodes c)) t) τ) own.1 (met_has a Γ k (i + (1 + nodes c)) t
          (omega arith) m.2),
      subst (λ τ. Has Γ (numbered (i + (1 + (nodes c + nodes t))) e) τ) own.2
          (met_has a Γ k (i + (1 + (nodes c + nodes t))) e (omega arith) m.3),
    )

-- conditions node by node

-- a tree that begins behind node k asks nothing yet
pub met_not_yet : (a : Assignment) (Γ : List Ty) (k i : ℕ) (t : Tree) → k < i → Met a Γ k i t
met_not_yet a Γ k i (number n) h = λ q. absurd (omega arith)
met_not_yet a Γ k i (truth b) h = λ q. absurd (omega arith)
met_not_yet a Γ k i (variable d) h = λ q. absurd (omega arith)
met_not_yet a Γ k i (function b) h = (
  (λ q. absurd (omega arith)),
  met_not_yet a (a.parameter_of i ∷ Γ) k (i + 1) b
      (omega arith),
)
met_not_yet a Γ k i (application f x) h = (
  (λ q. absurd (omega arith)),
  met_not_yet a Γ k (i + 1) f (omega arith),
  met_not_yet a Γ k (i + (1 + nodes f)) x
      (omega arith),
)
met_not_yet a Γ k i (let_in e b) h = (
  (λ q. absurd (omega arith)),
  met_not_yet a Γ k (i + 1) e (omega arith),
  met_not_yet a (a.type_of (i + 1) ∷ Γ) k
      (i + (1 + nodes e)) b (omega arith),
)
met_not_yet a Γ k i (sum l r) h = (
  (λ q. absurd (omega arith)),
  met_not_yet a Γ k (i + 1) l (omega arith),
  met_not_yet a Γ k (i + (1 + nodes l)) r
      (omega arith),
)
met_not_yet a Γ k i (at_most l r) h = (
  (λ q. absurd (omega arith)),
  met_not_yet a Γ k (i + 1) l (omega arith),
  met_not_yet a Γ k (i + (1 + nodes l)) r
      (omega arith),
)
met_not_yet a Γ k i (if_else c t e) h = (
  (λ q. absurd (omega arith)),
  met_not_yet a Γ k (i + 1) c (omega arith),
  met_not_yet a Γ k (i + (1 + nodes c)) t (omega arith),
  met_not_yet a Γ k (i + (1 + (nodes c + nodes t))) e (omega arith),
)

-- what is met up to node l is met up to each node k of the tree that is at most l; and beyond the tree nothing is asked
pub met_up_to : (a : Assignment) (Γ : List Ty) (k l i : ℕ) (t : Tree) → ((n : ℕ) → n < i + nodes t → n ≤ k → n ≤ l)
    → Met a Γ l i t → Met a Γ k i t
met_up_to a Γ k l i (number n) h m = λ q. m (h i (omega arith) q)
met_up_to a Γ k l i (truth b) h m = λ q. m (h i (omega arith) q)
met_up_to a Γ k l i (variable d) h m = λ q. m (h i (omega arith) q)
met_up_to a Γ k l i (function b) h m = (
  (λ q. m.0 (h i (omega arith) q)),
  met_up_to a (a.parameter_of i ∷ Γ) k l (i + 1) b (λ n p q. h n (omega arith) q)
      m.1,
)
met_up_to a Γ k l i (application f x) h m = (
  (λ q. m.0 (h i (omega arith) q)),
  met_up_to a Γ k l (i + 1) f (λ n p q. h n (omega arith) q) m.1,
  met_up_to a Γ k l (i + (1 + nodes f)) x (λ n p q. h n (omega arith) q) m.2,
)
met_up_to a Γ k l i (let_in e b) h m = (
  (λ q. m.0 (h i (omega arith) q)),
  met_up_to a Γ k l (i + 1) e (λ n p q. h n (omega arith) q) m.1,
  met_up_to a (a.type_of (i + 1) ∷ Γ) k l (i + (1 + nodes e)) b (λ n p q. h n (omega arith) q) m.2,
)
met_up_to a Γ k l i (sum x y) h m = (
  (λ q. m.0 (h i (omega arith) q)),
  met_up_to a Γ k l (i + 1) x (λ n p q. h n (omega arith) q) m.1,
  met_up_to a Γ k l (i + (1 + nodes x)) y (λ n p q. h n (omega arith) q) m.2,
)
met_up_to a Γ k l i (at_most x y) h m = (
  (λ q. m.0 (h i (omega arith) q)),
  met_up_to a Γ k l (i + 1) x (λ n p q. h n (omega arith) q) m.1,
  met_up_to a Γ k l (i + (1 + nodes x)) y (λ n p q. h n (omega arith) q) m.2,
)
met_up_to a Γ k l i (if_else c t e) h m = (
  (λ q. m.0 (h i (omega arith) q)),
  met_up_to a Γ k l (i + 1) c (λ n p q. h n (omega arith) q) m.1,
  met_up_to a Γ k l (i + (1 + nodes c)) t (λ n p q. h n (omega arith) q) m.2,
  met_up_to a Γ k l (i + (1 + (nodes c + nodes t))) e (λ n p q. h n (omega arith) q) m.3,
)

-- what cannot be met up to node k cannot be met further
pub cannot_meet_further : (r : ℕ) (t : Tree) (k l : ℕ) → k ≤ l → CannotMeet r t k → CannotMeet r t l
cannot_meet_further r t k l h c a m = c a (met_up_to a (replicate r int) k l 0 t (λ n p q. omega arith) m)

-- conditions see only the nodes of their tree

pub record Agree (a b : Assignment) (i j : ℕ) : Type 0 where
  pub types : (n : ℕ) → i ≤ n → n < j → a.type_of n ≡ b.type_of n
  pub parameters : (n : ℕ) → i ≤ n → n < j → a.parameter_of n ≡ b.parameter_of n

narrower : (a b : Assignment) (i j k l : ℕ) → i ≤ k → l ≤ j → Agree a b i j → Agree a b k l
narrower a b i j k l g h r =
    record {
      types = λ n p q. r.types n (omega arith) (omega arith);
      parameters = λ n p q. r.parameters n (omega arith) (omega arith);
    }

pub met_agree : (a b : Assignment) (Γ : List Ty) (k i : ℕ) (t : Tree) → Agree a b i (i + nodes t) → Met a Γ k i t
    → Met b Γ k i t
met_agree a b Γ k i (number n) r m = λ h. let p = r.types i (omega arith) (omega arith) in let q = m h in cc
met_agree a b Γ k i (truth x) r m = λ h. let p = r.types i (omega arith) (omega arith) in let q = m h in cc
met_agree a b Γ k i (variable d) r m = λ h. let p = r.types i (omega arith) (omega arith) in let q = m h in cc
met_agree a b Γ k i (function x) r m = (
  λ h.
      let p = r.types i (omega arith) (omega arith) in
      let q = r.parameters i (omega arith) (omega arith) in
      let s = r.types (i + 1) (omega arith) (omega (arith, nodes_pos x)) in
      let u = m.0 h in
      cc,
  subst (λ p. Met b (p ∷ Γ) k (i + 1) x) (r.parameters i (omega arith) (omega arith))
      (met_agree a b (a.parameter_of i ∷ Γ) k (i + 1) x (narrower a b i (i + (1 + nodes x)) (i + 1) (i + 1 + nodes x)
      (omega arith) (omega arith) r) m.1),
)
met_agree a b Γ k i (application f x) r m = (
  λ h.
      let p = r.types i (omega arith) (omega arith) in
      let q = r.types (i + 1) (omega arith) (omega (arith, nodes_pos f)) in
      let s = r.types (i + (1 + nodes f)) (omega arith) (omega (arith, nodes_pos x)) in
      let u = m.0 h in
      cc,
  met_agree a b Γ k (i + 1) f (narrower a b i (i + (1 + (nodes f + nodes x))) (i + 1) (i + 1 + nodes f) (omega arith)
      (omega arith) r) m.1,
  met_agree a b Γ k (i + (1 + nodes f)) x (narrower a b i (i + (1 + (nodes f + nodes x))) (i + (1 + nodes f))
      (i + (1 + nodes f) + nodes x) (omega arith) (omega arith) r) m.2,
)
met_agree a b Γ k i (let_in e x) r m = (
  λ h.
      let p = r.types i (omega arith) (omega arith) in
      let s = r.types (i + (1 + nodes e)) (omega arith) (omega (arith, nodes_pos x)) in
      let u = m.0 h in
      cc,
  met_agree a b Γ k (i + 1) e (narrower a b i (i + (1 + (nodes e + nodes x))) (i + 1) (i + 1 + nodes e) (omega arith)
      (omega arith) r) m.1,
  subst (λ p. Met b (p ∷ Γ) k (i + (1 + nodes e)) x) (r.types (i + 1) (omega arith) (omega (arith, nodes_pos e)))
      (met_agree a b (a.type_of (i + 1) ∷ Γ) k (i + (1 + nodes e)) x (narrower a b i (i + (1 + (nodes e + nodes x)))
      (i + (1 + nodes e)) (i + (1 + nodes e) + nodes x) (omega arith) (omega arith) r) m.2),
)
met_agree a b Γ k i (sum l x) r m = (
  λ h.
      let p = r.types i (omega arith) (omega arith) in
      let q = r.types (i + 1) (omega arith) (omega (arith, nodes_pos l)) in
      let s = r.types (i + (1 + nodes l)) (omega arith) (omega (arith, nodes_pos x)) in
      let u = m.0 h in
      (sym p ∙ u.0, sym q ∙ u.1, sym s ∙ u.2),
  met_agree a b Γ k (i + 1) l (narrower a b i (i + (1 + (nodes l + nodes x))) (i + 1) (i + 1 + nodes l) (omega arith)
      (omega arith) r) m.1,
  met_agree a b Γ k (i + (1 + nodes l)) x (narrower a b i (i + (1 + (nodes l + nodes x))) (i + (1 + nodes l))
      (i + (1 + nodes l) + nodes x) (omega arith) (omega arith) r) m.2,
)
met_agree a b Γ k i (at_most l x) r m = (
  λ h.
      let p = r.types i (omega arith) (omega arith) in
      let q = r.types (i + 1) (omega arith) (omega (arith, nodes_pos l)) in
      let s = r.types (i + (1 + nodes l)) (omega arith) (omega (arith, nodes_pos x)) in
      let u = m.0 h in
      (sym p ∙ u.0, sym q ∙ u.1, sym s ∙ u.2),
  met_agree a b Γ k (i + 1) l (narrower a b i (i + (1 + (nodes l + nodes x))) (i + 1) (i + 1 + nodes l) (omega arith)
      (omega arith) r) m.1,
  met_agree a b Γ k (i + (1 + nodes l)) x (narrower a b i (i + (1 + (nodes l + nodes x))) (i + (1 + nodes l))
      (i + (1 + nodes l) + nodes x) (omega arith) (omega arith) r) m.2,
)
met_agree a b Γ k i (if_else c t e) r m = (
  λ h.
      let p = r.types i (omega arith) (omega arith) in
      let q = r.types (i + 1) (omega arith) (omega (arith, nodes_pos c)) in
      let s = r.types (i + (1 + nodes c)) (omega arith) (omega (arith, nodes_pos t)) in
      let v = r.types (i + (1 + (nodes c + nodes t))) (omega arith) (omega (arith, nodes_pos e)) in
      let u = m.0 h in
      (sym q ∙ u.0, sym s ∙ (u.1 ∙ p), sym v ∙ (u.2 ∙ p)),
  met_agree a b Γ k (i + 1) c (narrower a b i (i + (1 + (nodes c + (nodes t + nodes e)))) (i + 1) (i + 1 + nodes c)
      (omega arith) (omega arith) r) m.1,
  met_agree a b Γ k (i + (1 + nodes c)) t (narrower a b i (i + (1 + (nodes c + (nodes t + nodes e))))
      (i + (1 + nodes c)) (i + (1 + nodes c) + nodes t) (omega arith) (omega arith) r) m.2,
  met_agree a b Γ k (i + (1 + (nodes c + nodes t))) e (narrower a b i (i + (1 + (nodes c + (nodes t + nodes e))))
      (i + (1 + (nodes c + nodes t))) (i + (1 + (nodes c + nodes t)) + nodes e) (omega arith) (omega arith) r) m.3,
)

-- two assignments, one for the nodes below m and one for the others

abbrev join : ℕ → Assignment → Assignment → Assignment
join m a b =
    record {
      type_of = λ n. cond (ltb n m) (a.type_of n) (b.type_of n);
      parameter_of = λ n. cond (ltb n m) (a.parameter_of n) (b.parameter_of n);
    }

join_below : (m : ℕ) (a b : Assignment) (i : ℕ) → Agree a (join m a b) i m
join_below m a b i =
    record {
      types = λ n p q. sym (ap (λ x. cond x (a.type_of n) (b.type_of n)) (lt-ltb n m q));
      parameters = λ n p q. sym (ap (λ x. cond x (a.parameter_of n) (b.parameter_of n)) (lt-ltb n m q));
    }

join_above : (m : ℕ) (a b : Assignment) (j : ℕ) → Agree b (join m a b) m j
join_above m a b j =
    record {
      types = λ n p q. sym (ap (λ x. cond x (a.type_of n) (b.type_of n)) (le-ltb n m p));
      parameters = λ n p q. sym (ap (λ x. cond x (a.parameter_of n) (b.parameter_of n)) (le-ltb n m p));
    }

-- a typed term's derivation is an assignment that meets all conditions

record Found (Γ : List Ty) (i : ℕ) (t : Tree) (τ : Ty) : Type 0 where
  assigned : Assignment
  at_root : assigned.type_of i ≡ τ
  met : (k : ℕ) → Met assigned Γ k i t

-- the type τ and the parameter type p at the root, the assignment a below it
abbrev rooted : ℕ → Ty → Ty → Assignment → Assignment
rooted i τ p a = join (i + 1) (record { type_of = λ n. τ; parameter_of = λ n. p }) a

root_type : (i : ℕ) (τ p : Ty) (a : Assignment) → (rooted i τ p a).type_of i ≡ τ
root_type i τ p a = ap (λ x. cond x τ (a.type_of i)) (lt-ltb i (i + 1) (omega arith))

root_parameter : (i : ℕ) (τ p : Ty) (a : Assignment) → (rooted i τ p a).parameter_of i ≡ p
root_parameter i τ p a = ap (λ x. cond x p (a.parameter_of i)) (lt-ltb i (i + 1) (omega arith))

below_root : (i : ℕ) (τ p : Ty) (a : Assignment) (n : ℕ) → i + 1 ≤ n → (rooted i τ p a).type_of n ≡ a.type_of n
below_root i τ p a n h = ap (λ x. cond x τ (a.type_of n)) (le-ltb n (i + 1) h)

leaf : (Γ : List Ty) (i : ℕ) (t : Tree) (τ : Ty)
    → ((k : ℕ) → Met (record { type_of = λ n. τ; parameter_of = λ n. τ }) Γ k i t) → Found Γ i t τ
leaf Γ i t τ m = record { assigned = record { type_of = λ n. τ; parameter_of = λ n. τ }; at_root = refl; met = m }

-- two children of a node at i
record Children (Γ Δ : List Ty) (i : ℕ) (l r : Tree) (σ ρ : Ty) : Type 0 where
  assigned : Assignment
  left_type : assigned.type_of (i + 1) ≡ σ
  right_type : assigned.type_of (i + (1 + nodes l)) ≡ ρ
  left_met : (k : ℕ) → Met assigned Γ k (i + 1) l
  right_met : (k : ℕ) → Met assigned Δ k (i + (1 + nodes l)) r

children : (Γ Δ : List Ty) (i : ℕ) (l r : Tree) (σ ρ : Ty) → Found Γ (i + 1) l σ → Found Δ (i + (1 + nodes l)) r ρ
    → Children Γ Δ i l r σ ρ
children Γ Δ i l r σ ρ f g =
    let m = i + (1 + nodes l) in
    let a = f.assigned in
    let b = g.assigned in
    record {
      assigned = join m a b;
      left_type = sym ((join_below m a b (i + 1)).types (i + 1) (omega arith) (omega (arith, nodes_pos l))) ∙ f.at_root;
      right_type = sym ((join_above m a b (m + 1)).types m (omega arith) (omega arith)) ∙ g.at_root;
      left_met = λ k. met_agree a (join m a b) Γ k (i + 1) l (narrower a (join m a b) (i + 1) m (i + 1)
          (i + 1 + nodes l) (omega arith) (omega arith) (join_below m a b (i + 1))) (f.met k);
      right_met = λ k. met_agree b (join m a b) Δ k m r (join_above m a b (m + nodes r)) (g.met k);
    }

-- the same assignment, with a root above it
under_root : (i : ℕ) (τ p : Ty) (a : Assignment) (Γ : List Ty) (k j : ℕ) (t : Tree) → i + 1 ≤ j → Met a Γ k j t
    → Met (rooted i τ p a) Γ k j t
under_root i τ p a Γ k j t h m =
    let r = rooted i τ p a in
    met_agree a r Γ k j t (narrower a r (i + 1) (j + nodes t) j (j + nodes t) h (omega arith)
    (join_above (i + 1) (record { type_of = λ n. τ; parameter_of = λ n. p }) a (j + nodes t))) m

has_met : (Γ : List Ty) (i : ℕ) (t : Tree) (τ : Ty) → Has Γ (numbered i t) τ → Found Γ i t τ
has_met Γ i (number n) τ h = leaf Γ i (number n) τ (λ k q. h)
has_met Γ i (truth b) τ h = leaf Γ i (truth b) τ (λ k q. h)
has_met Γ i (variable d) τ h = leaf Γ i (variable d) τ (λ k q. h)
has_met Γ i (function b) τ (p, s, e, h) =
    let f = has_met (p ∷ Γ) (i + 1) b s h in
    let a = f.assigned in
    let r = rooted i τ p a in
    let own_type = root_type i τ p a in
    let own_parameter = root_parameter i τ p a in
    let body_type = below_root i τ p a (i + 1) (omega arith) ∙ f.at_root in
    record {
      assigned = r;
      at_root = own_type;
      met = λ k. (
        (λ q. cc),
        subst (λ x. Met r (x ∷ Γ) k (i + 1) b) (sym own_parameter) (under_root i τ p a (p ∷ Γ) k (i + 1) b
            (omega arith) (f.met k)),
      );
    }
has_met Γ i (application f x) τ (p, g, h) =
    let c = children Γ Γ i f x (p ⇒ τ) p (has_met Γ (i + 1) f (p ⇒ τ) g) (has_met Γ (i + (1 + nodes f)) x p h) in
    let a = c.assigned in
    let own_type = root_type i τ int a in
    let left = below_root i τ int a (i + 1) (omega arith) ∙ c.left_type in
    let right = below_root i τ int a (i + (1 + nodes f)) (omega arith) ∙ c.right_type in
    record {
      assigned = rooted i τ int a;
      at_root = own_type;
      met = λ k. (
        (λ q. cc),
        under_root i τ int a Γ k (i + 1) f (omega arith) (c.left_met k),
        under_root i τ int a Γ k (i + (1 + nodes f)) x (omega arith) (c.right_met k),
      );
    }
has_met Γ i (let_in e b) τ (p, g, h) =
    let c = children Γ (p ∷ Γ) i e b p τ (has_met Γ (i + 1) e p g) (has_met (p ∷ Γ) (i + (1 + nodes e)) b τ h) in
    let a = c.assigned in
    let r = rooted i τ int a in
    let own_type = root_type i τ int a in
    let left = below_root i τ int a (i + 1) (omega arith) ∙ c.left_type in
    let right = below_root i τ int a (i + (1 + nodes e)) (omega arith) ∙ c.right_type in
    record {
      assigned = r;
      at_root = own_type;
      met = λ k. (
        (λ q. own_type ∙ sym right),
        under_root i τ int a Γ k (i + 1) e (omega arith) (c.left_met k),
        subst (λ x. Met r (x ∷ Γ) k (i + (1 + nodes e)) b) (sym left) (under_root i τ int a (p ∷ Γ) k
            (i + (1 + nodes e)) b (omega arith) (c.right_met k)),
      );
    }
has_met Γ i (sum l x) τ (e, g, h) =
    let c = children Γ Γ i l x int int (has_met Γ (i + 1) l int g) (has_met Γ (i + (1 + nodes l)) x int h) in
    let a = c.assigned in
    let own_type = root_type i τ int a in
    let left = below_root i τ int a (i + 1) (omega arith) ∙ c.left_type in
    let right = below_root i τ int a (i + (1 + nodes l)) (omega arith) ∙ c.right_type in
    record {
      assigned = rooted i τ int a;
      at_root = own_type;
      met = λ k. (
        (λ q. (own_type ∙ e, left, right)),
        under_root i τ int a Γ k (i + 1) l (omega arith) (c.left_met k),
        under_root i τ int a Γ k (i + (1 + nodes l)) x (omega arith) (c.right_met k),
      );
    }
has_met Γ i (at_most l x) τ (e, g, h) =
    let c = children Γ Γ i l x int int (has_met Γ (i + 1) l int g) (has_met Γ (i + (1 + nodes l)) x int h) in
    let a = c.assigned in
    let own_type = root_type i τ int a in
    let left = below_root i τ int a (i + 1) (omega arith) ∙ c.left_type in
    let right = below_root i τ int a (i + (1 + nodes l)) (omega arith) ∙ c.right_type in
    record {
      assigned = rooted i τ int a;
      at_root = own_type;
      met = λ k. (
        (λ q. (own_type ∙ e, left, right)),
        under_root i τ int a Γ k (i + 1) l (omega arith) (c.left_met k),
        under_root i τ int a Γ k (i + (1 + nodes l)) x (omega arith) (c.right_met k),
      );
    }
has_met Γ i (if_else x t e) τ (g, h, j) =
    let c = children Γ Γ i x t bool τ (has_met Γ (i + 1) x bool g) (has_met Γ (i + (1 + nodes x)) t τ h) in
    let f = has_met Γ (i + (1 + (nodes x + nodes t))) e τ j in
    let m = i + (1 + (nodes x + nodes t)) in
    let a = c.assigned in
    let b = f.assigned in
    let both = join m a b in
    let own_type = root_type i τ int both in
    let first_type : both.type_of (i + 1) ≡ bool = sym ((join_below m a b 0).types (i + 1) (omega arith)
    (omega (arith, nodes_pos x))) ∙ c.left_type in
    let second_type : both.type_of (i + (1 + nodes x)) ≡ τ = sym ((join_below m a b 0).types (i + (1 + nodes x))
    (omega arith) (omega (arith, nodes_pos t))) ∙ c.right_type in
    let third_type : both.type_of m ≡ τ = sym ((join_above m a b (m + 1)).types m (omega arith) (omega arith))
    ∙ f.at_root in
    let first_met : (k : ℕ) → Met both Γ k (i + 1) x =
    λ k. met_agree a both Γ k (i + 1) x (narrower a both 0 m (i + 1) (i + 1 + nodes x) (omega arith) (omega arith)
    (join_below m a b 0)) (c.left_met k) in
    let second_met : (k : ℕ) → Met both Γ k (i + (1 + nodes x)) t =
    λ k. met_agree a both Γ k (i + (1 + nodes x)) t (narrower a both 0 m (i + (1 + nodes x))
    (i + (1 + nodes x) + nodes t) (omega arith) (omega arith) (join_below m a b 0)) (c.right_met k) in
    let third_met : (k : ℕ) → Met both Γ k m e = λ k. met_agree b both Γ k m e (join_above m a b (m + nodes e))
    (f.met k) in
    record {
      assigned = rooted i τ int both;
      at_root = own_type;
      met = λ k. (
        (λ q. (
          below_root i τ int both (i + 1) (omega arith) ∙ first_type,
          below_root i τ int both (i + (1 + nodes x)) (omega arith) ∙ second_type ∙ sym own_type,
          below_root i τ int both m (omega arith) ∙ third_type ∙ sym own_type,
        )),
        under_root i τ int both Γ k (i + 1) x (omega arith) (first_met k),
        under_root i τ int both Γ k (i + (1 + nodes x)) t (omega arith) (second_met k),
        under_root i τ int both Γ k m e (omega arith) (third_met k),
      );
    }

-- the law

conditions_type : (r : ℕ) (t : Tree) (τ : Ty) → ((a : Assignment) × (a.type_of 0 ≡ τ) × Meets r t (nodes t) a)
    → RuleHas r t τ
conditions_type r t τ (a, e, m) = subst (λ x. RuleHas r t x) e (met_has a (replicate r int) (nodes t) 0 t
    (omega arith) m)

pub type_conditions : (r : ℕ) (t : Tree) (τ : Ty) (k : ℕ) → RuleHas r t τ → (a : Assignment) × (a.type_of 0 ≡ τ)
    × Meets r t k a
type_conditions r t τ k h = let f = has_met (replicate r int) 0 t τ h in (f.assigned, f.at_root, f.met k)

pub typed_by_conditions : TypedByConditions
typed_by_conditions =
    record {
      both_ways = λ r t τ. (type_conditions r t τ (nodes t), conditions_type r t τ);
      none_without = λ r t k c τ h. c (type_conditions r t τ k h).0 (type_conditions r t τ k h).2;
    }

-- an assignment that meets all conditions, and from which each other such comes, has a most general type at node 0
pub general_by_conditions :
    (r : ℕ) (t : Tree) (a : Assignment) →
    Meets r t (nodes t) a →
    ((b : Assignment) → Meets r t (nodes t) b → ComesFrom (a.type_of 0) (b.type_of 0)) →
    MostGeneral r t (a.type_of 0)
general_by_conditions r t a m every =
    record {
      is_type = conditions_type r t (a.type_of 0) (a, refl, m);
      every_type = λ σ h.
          let c = type_conditions r t σ (nodes t) h in
          subst (λ x. ComesFrom (a.type_of 0) x) c.1 (every c.0 c.2);
    }
