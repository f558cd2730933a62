-- Bytes at their places.
use Rattle.std.specs.Prelude.{◌≡◌, ℕ, ◌+◌, ◌*◌, ◌<◌, ◌≤◌, List, [], ◌∷◌, length, slice_index}

-- the bytes w stand in s from place p on
abbrev pub Stands : List ℕ → ℕ → List ℕ → Type 0
Stands s p [] = p ≤ length s
Stands s p (x ∷ w) = (p < length s) × (slice_index s p ≡ x) × Stands s (p + 1) w

-- what two bytes come to, the higher first
abbrev pub two_at : List ℕ → ℕ → ℕ
two_at s p = slice_index s p * 256 + slice_index s (p + 1)
