-- The same types, told node by node: what accepting a rule goes through.
use Rattle.std.specs.Prelude.{List, ◌∷◌, ◌≡◌, replicate, ℕ, ◌+◌, ◌≤◌}
use Rattle.std.proofs.Math.Option.{some}
use Rattle.syntax.specs.Tree.{Tree, number, truth, variable, function, application, let_in, sum, at_most, if_else}
use Rattle.syntax.specs.Tree.{nodes}
use Rattle.calculus.specs.Types.{Ty, int, bool, ◌⇒◌, at}

-- a type for each node, and a parameter type for each function node
pub record Assignment : Type 0 where
  pub type_of : ℕ → Ty
  pub parameter_of : ℕ → Ty

-- What node i asks, under the types Γ of the variables in force. A node states its own type and the types of its
-- children where these are known; the children of a node at i begin at i + 1.
abbrev pub Asks : Assignment → List Ty → ℕ → Tree → Type 0
Asks a Γ i (number k) = a.type_of i ≡ int
Asks a Γ i (truth b) = a.type_of i ≡ bool
Asks a Γ i (variable d) = at Γ d ≡ some (a.type_of i)
Asks a Γ i (function b) = a.type_of i ≡ a.parameter_of i ⇒ a.type_of (i + 1)
Asks a Γ i (application f x) = a.type_of (i + 1) ≡ a.type_of (i + (1 + nodes f)) ⇒ a.type_of i
Asks a Γ i (let_in e b) = a.type_of i ≡ a.type_of (i + (1 + nodes e))
Asks a Γ i (sum l r) = (a.type_of i ≡ int) × (a.type_of (i + 1) ≡ int) × (a.type_of (i + (1 + nodes l)) ≡ int)
Asks a Γ i (at_most l r) = (a.type_of i ≡ bool) × (a.type_of (i + 1) ≡ int) × (a.type_of (i + (1 + nodes l)) ≡ int)
Asks a Γ i (if_else c t e) =
    (a.type_of (i + 1) ≡ bool) ×
    (a.type_of (i + (1 + nodes c)) ≡ a.type_of i) ×
    (a.type_of (i + (1 + (nodes c + nodes t))) ≡ a.type_of i)

-- the conditions of the nodes up to node k are met, in the tree that begins at node i
abbrev pub Met : Assignment → List Ty → ℕ → ℕ → Tree → Type 0
Met a Γ k i (number n) = i ≤ k → Asks a Γ i (number n)
Met a Γ k i (truth b) = i ≤ k → Asks a Γ i (truth b)
Met a Γ k i (variable d) = i ≤ k → Asks a Γ i (variable d)
Met a Γ k i (function b) = (i ≤ k → Asks a Γ i (function b)) × Met a (a.parameter_of i ∷ Γ) k (i + 1) b
Met a Γ k i (application f x) = (i ≤ k → Asks a Γ i (application f x)) × Met a Γ k (i + 1) f
    × Met a Γ k (i + (1 + nodes f)) x
Met a Γ k i (let_in e b) = (i ≤ k → Asks a Γ i (let_in e b)) × Met a Γ k (i + 1) e × Met a (a.type_of (i + 1) ∷ Γ) k
    (i + (1 + nodes e)) b
Met a Γ k i (sum l r) = (i ≤ k → Asks a Γ i (sum l r)) × Met a Γ k (i + 1) l × Met a Γ k (i + (1 + nodes l)) r
Met a Γ k i (at_most l r) = (i ≤ k → Asks a Γ i (at_most l r)) × Met a Γ k (i + 1) l × Met a Γ k (i + (1 + nodes l)) r
Met a Γ k i (if_else c t e) =
    (i ≤ k → Asks a Γ i (if_else c t e)) ×
    Met a Γ k (i + 1) c ×
    Met a Γ k (i + (1 + nodes c)) t ×
    Met a Γ k (i + (1 + (nodes c + nodes t))) e

-- an assignment that meets the conditions of nodes 0 to k of a rule over r readings
abbrev pub Meets : ℕ → Tree → ℕ → Assignment → Type 0
Meets r t k a = Met a (replicate r int) k 0 t

-- the conditions of nodes 0 to k cannot all be met
abbrev pub CannotMeet : ℕ → Tree → ℕ → Type 0
CannotMeet r t k = (a : Assignment) → ¬ Meets r t k a
