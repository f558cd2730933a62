-- Run values for values on plain lists, and the handles of environments.
use Rattle.std.specs.Prelude.{◌≡◌, ◌≢◌, ◌⊎◌, ℕ, List, [], ◌∷◌, Some, None}
use Rattle.store.specs.Lists.{Lists}
use Rattle.values.specs.declared.Value.{Value}
use Rattle.values.specs.declared.Value.TheVariants.{Number, Truth, Function}
use Rattle.reckoning.specs.Environments.{Env, empty, ◌before◌, size}
use Rattle.reckoning.specs.Environments as plain
use Rattle.machine.specs.Places.{Rule, BodyOf}

-- A run value stands for a value on plain lists, in a store that gives handles these lists: numbers and truths for
-- themselves, a function for that of its node, whose body is the node's and whose environment is the list of the
-- handle.
abbrev mutual
  pub StandsFor : Rule → Lists Value → Value → plain.Value → Type 0
  StandsFor rule lists (Number j) (plain.number k) = j ≡ k
  StandsFor rule lists (Number j) (plain.truth b) = ⊥
  StandsFor rule lists (Number j) (plain.function n b env) = ⊥
  StandsFor rule lists (Truth c) (plain.number k) = ⊥
  StandsFor rule lists (Truth c) (plain.truth b) = c ≡ b
  StandsFor rule lists (Truth c) (plain.function n b env) = ⊥
  StandsFor rule lists (Function m h) (plain.number k) = ⊥
  StandsFor rule lists (Function m h) (plain.truth b) = ⊥
  StandsFor rule lists (Function m h) (plain.function n b env) =
      (m ≡ n) × BodyOf rule (size env) m b × ((l : List Value) × (lists h ≡ Some l) × AllStandFor rule lists l env)

  pub AllStandFor : Rule → Lists Value → List Value → Env → Type 0
  AllStandFor rule lists [] empty = Unit {0}
  AllStandFor rule lists [] (v before env) = ⊥
  AllStandFor rule lists (x ∷ l) empty = ⊥
  AllStandFor rule lists (x ∷ l) (v before env) = StandsFor rule lists x v × AllStandFor rule lists l env

-- the environment is the list of this handle
abbrev pub IsListOf : Rule → Lists Value → ℕ → Env → Type 0
IsListOf rule lists h env = (l : List Value) × (lists h ≡ Some l) × AllStandFor rule lists l env

abbrev pub Among : ℕ → List ℕ → Type 0
Among h [] = ⊥
Among h (k ∷ handles) = (h ≡ k) ⊎ Among h handles

-- each of the environments is the list of the handle in its place, which is not the root and in no other place
abbrev pub OwnLists : Rule → Lists Value → ℕ → List ℕ → List Env → Type 0
OwnLists rule lists root [] [] = Unit {0}
OwnLists rule lists root [] (env ∷ made) = ⊥
OwnLists rule lists root (h ∷ handles) [] = ⊥
OwnLists rule lists root (h ∷ handles) (env ∷ made) =
    IsListOf rule lists h env × (h ≢ root) × (¬ Among h handles) × OwnLists rule lists root handles made

-- the handle that a run begins from, and the environment that is its list
pub record Root : Type 0 where
  pub handle : ℕ
  pub environment : Env

-- The environments made are the lists of handles of their own, and no other handle but the root has a list.
pub record Owned (rule : Rule) (lists : Lists Value) (root : Root) (made : List Env) : Type 0 where
  pub handles : List ℕ
  pub at_root : IsListOf rule lists root.handle root.environment
  pub own : OwnLists rule lists root.handle handles made
  pub no_other : (h : ℕ) → (h ≢ root.handle) → (¬ Among h handles) → lists h ≡ None
