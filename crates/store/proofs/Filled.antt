-- A list that was filled with one value.
use Rattle.std.proofs.Common.{◌≡◌, ℕ, List, [], ◌∷◌, length, replicate, refl, ap, ◌∙◌}
use Rattle.std.specs.List.{FoldsTo}

-- each element is what one call answered
pub all_filled : {P X : Type 0} {R : P → X → P → Type 0} (y : X) → ((p : P) (x : X) (q : P) → R p x q → x ≡ y)
    → (p : P) (xs : List X) (q : P) → FoldsTo R p xs q → xs ≡ replicate (length xs) y
all_filled y each p [] q h = refl
all_filled y each p (x ∷ xs) q h = ap (λ z. z ∷ xs) (each p x h.0 h.1)
    ∙ ap (λ l. y ∷ l) (all_filled y each h.0 xs q h.2)

pub filled : {P X : Type 0} {R : P → X → P → Type 0} (y : X) (n : ℕ) → ((p : P) (x : X) (q : P) → R p x q → x ≡ y)
    → (p : P) (xs : List X) (q : P) → length xs ≡ n → FoldsTo R p xs q → xs ≡ replicate n y
filled y n each p xs q long h = all_filled y each p xs q h ∙ ap (λ k. replicate k y) long
