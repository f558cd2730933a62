-- Types, and which term has which.
use Rattle.std.specs.Prelude.{◌≡◌, List, [], ◌∷◌, replicate, ℕ, zero, suc}
use Rattle.std.proofs.Math.Option.{Option, none, some}
use Rattle.syntax.specs.Tree.{Tree}
use Rattle.calculus.specs.Term.{Term, number, truth, variable, function, application, let_in, sum, at_most, if_else}
use Rattle.calculus.specs.Term.{numbered}

infixr 5 ◌⇒◌
--   τ ::= int | bool | τ → τ | unknown k
pub data Ty : Type 0 where
  int : Ty
  bool : Ty
  ◌⇒◌ : Ty → Ty → Ty
  unknown : ℕ → Ty

-- the type that stands in Γ for distance d
abbrev pub at : List Ty → ℕ → Option Ty
at [] d = none
at (p ∷ Γ) zero = some p
at (p ∷ Γ) (suc d) = at Γ d

-- A node's type, under the types Γ of the variables in force: for a function's variable its parameter type, for a
-- let's the type of its bound child, for a reading int.
--
--   Γ ⊢ k : int
--   Γ ⊢ true, false : bool
--   Γ ⊢ x : τ                      if  Γ(x) = τ
--   Γ ⊢ fun x -> b : p → s         if  Γ, x : p ⊢ b : s
--   Γ ⊢ f a : τ                    if  Γ ⊢ f : p → τ  and  Γ ⊢ a : p
--   Γ ⊢ let x = e in b : τ         if  Γ ⊢ e : p  and  Γ, x : p ⊢ b : τ
--   Γ ⊢ l + r : int                if  Γ ⊢ l : int  and  Γ ⊢ r : int
--   Γ ⊢ l <= r : bool              if  Γ ⊢ l : int  and  Γ ⊢ r : int
--   Γ ⊢ if c then t else e : τ     if  Γ ⊢ c : bool  and  Γ ⊢ t : τ  and  Γ ⊢ e : τ
abbrev pub Has : List Ty → Term → Ty → Type 0
Has Γ (number k) τ = τ ≡ int
Has Γ (truth b) τ = τ ≡ bool
Has Γ (variable d) τ = at Γ d ≡ some τ
Has Γ (function n b) τ = (p : Ty) × (s : Ty) × (τ ≡ p ⇒ s) × Has (p ∷ Γ) b s
Has Γ (application n f a) τ = (p : Ty) × Has Γ f (p ⇒ τ) × Has Γ a p
Has Γ (let_in n e b) τ = (p : Ty) × Has Γ e p × Has (p ∷ Γ) b τ
Has Γ (sum n l r) τ = (τ ≡ int) × Has Γ l int × Has Γ r int
Has Γ (at_most n l r) τ = (τ ≡ bool) × Has Γ l int × Has Γ r int
Has Γ (if_else n c t e) τ = Has Γ c bool × Has Γ t τ × Has Γ e τ

-- a rule over r readings has type τ: each reading is int
abbrev pub RuleHas : ℕ → Tree → Ty → Type 0
RuleHas r t τ = Has (replicate r int) (numbered 0 t) τ

-- a number belongs to int, a truth to bool, a function to any arrow, and nothing else to anything
abbrev pub Belongs : Term → Ty → Type 0
Belongs (number k) τ = τ ≡ int
Belongs (truth b) τ = τ ≡ bool
Belongs (variable d) τ = ⊥
Belongs (function n b) τ = (p : Ty) × (s : Ty) × (τ ≡ p ⇒ s)
Belongs (application n f a) τ = ⊥
Belongs (let_in n e b) τ = ⊥
Belongs (sum n l r) τ = ⊥
Belongs (at_most n l r) τ = ⊥
Belongs (if_else n c t e) τ = ⊥
