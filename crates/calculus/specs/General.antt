-- The most general type of a rule, and its spelling.
use Rattle.std.specs.Prelude.{cond, List, [], ◌∷◌, ◌++◌, ◌≡◌, ◌==◌, ℕ, suc, ◌+◌}
use Rattle.syntax.specs.Tree.{Tree}
use Rattle.calculus.specs.Types.{Ty, int, bool, ◌⇒◌, unknown, RuleHas}

-- types put for unknowns
abbrev pub put_types : (ℕ → Ty) → Ty → Ty
put_types θ int = int
put_types θ bool = bool
put_types θ (p ⇒ s) = put_types θ p ⇒ put_types θ s
put_types θ (unknown k) = θ k

-- σ comes from τ by putting types for unknowns
abbrev pub ComesFrom : Ty → Ty → Type 0
ComesFrom τ σ = (θ : ℕ → Ty) × (put_types θ τ ≡ σ)

-- a type of the rule from which every type of the rule comes
pub record MostGeneral (r : ℕ) (t : Tree) (μ : Ty) : Type 0 where
  pub is_type : RuleHas r t μ
  pub every_type : (σ : Ty) → RuleHas r t σ → ComesFrom μ σ

-- Unknowns numbered by first appearance. seen holds the unknowns met so far, the first met first;
-- place k seen is k's number there, or the next free number.
abbrev pub place : ℕ → List ℕ → ℕ
place k [] = 0
place k (j ∷ seen) = cond (k == j) 0 (suc (place k seen))

abbrev pub note : ℕ → List ℕ → List ℕ
note k [] = k ∷ []
note k (j ∷ seen) = j ∷ cond (k == j) seen (note k seen)

abbrev pub noted : List ℕ → Ty → List ℕ
noted seen int = seen
noted seen bool = seen
noted seen (p ⇒ s) = noted (noted seen p) s
noted seen (unknown k) = note k seen

abbrev pub renumbered : List ℕ → Ty → Ty
renumbered seen int = int
renumbered seen bool = bool
renumbered seen (p ⇒ s) = renumbered seen p ⇒ renumbered (noted seen p) s
renumbered seen (unknown k) = unknown (place k seen)

-- 0 for int, 1 for bool, 2 for an arrow followed by its two sides, 3 + k for unknown k
abbrev pub written : Ty → List ℕ
written int = 0 ∷ []
written bool = 1 ∷ []
written (p ⇒ s) = 2 ∷ (written p ++ written s)
written (unknown k) = (3 + k) ∷ []

abbrev pub spelling : Ty → List ℕ
spelling τ = written (renumbered [] τ)
