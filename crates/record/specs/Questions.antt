-- The questions that a byte string is asked, in their order; a no comes with the question's number and a place.
-- Places count bytes from the first.
use Rattle.std.specs.Prelude.{◌≡◌, ℕ, ◌+◌, ◌<◌, Bool, cond, not, ◌&&◌, ◌||◌, ◌⊎◌, List, [], ◌∷◌, ◌++◌, length, ◌==◌}
use Rattle.std.specs.Prelude.{nat_le, nat_lt, slice_index, slice_index_or}
use Rattle.std.proofs.Math.Option.{Option, some, none}
use Rattle.record.specs.Bytes.{two_at}

-- a question and, where its answer is no, the number and the place of the refusal; else the questions behind it
abbrev pub unless : Bool → ℕ × ℕ → Option (ℕ × ℕ) → Option (ℕ × ℕ)
unless met refusal later = cond met later (some refusal)

-- 1: are the first 2 bytes there, and equal to the count of the rest?
-- 2: is the next byte there, and 1?
-- 3: is the next byte there, and at most 8?
abbrev pub front : List ℕ → Option (ℕ × ℕ)
front s =
    unless (nat_le 2 (length s) && 2 + two_at s 0 == length s) (1, 0)
    (unless (nat_le 3 (length s) && slice_index s 2 == 1) (2, 2)
    (unless (nat_le 4 (length s) && nat_le (slice_index s 3) 8) (3, 3)
    none))

-- how many bytes a node of a kind takes, its children apart: a number has 4 further bytes, a variable 2
abbrev pub width : ℕ → ℕ
width kind = cond (kind == 1) 5 (cond (kind == 4) 3 1)

-- how many variables are in force around each child of a node of a kind, where b are around the node:
-- a function (5) and a let (7) have one more in their body
abbrev pub children : ℕ → ℕ → List ℕ
children kind b =
    slice_index_or ([] ∷ [] ∷ [] ∷ [] ∷ [] ∷ ((b + 1) ∷ []) ∷ (b ∷ b ∷ []) ∷ (b ∷ (b + 1) ∷ []) ∷ (b ∷ b ∷ []) ∷
    (b ∷ b ∷ []) ∷ (b ∷ b ∷ b ∷ []) ∷ []) kind []

-- Node n, with b variables in force around it and its kind byte at place p.
-- 4: has it a byte?  5: is it among the first 512?  6: is its kind from 1 to 10?
-- 7: are its number or distance bytes all there?  8: is a variable's distance below b?
abbrev pub asked : List ℕ → ℕ → ℕ → ℕ → Option (ℕ × ℕ)
asked s b n p =
    unless (nat_lt p (length s)) (4, length s)
    (unless (nat_lt n 512) (5, p)
    (unless (nat_le 1 (slice_index s p) && nat_le (slice_index s p) 10) (6, p)
    (unless (nat_le (p + width (slice_index s p)) (length s)) (7, length s)
    (unless (not (slice_index s p == 4) || nat_lt (two_at s (p + 1)) b) (8, p)
    none))))

-- Trees are still to come, from node n and place p on: for each the list has the count of variables in force around
-- it. A node is refused, or passes and its children come next; 9: behind the last tree, does the record end?
pub data Refused (s : List ℕ) : List ℕ → ℕ → ℕ → ℕ → ℕ → Type 0 where
  here : {b n p k q : ℕ} {more : List ℕ} → asked s b n p ≡ some (k, q) → Refused s (b ∷ more) n p k q
  later : {b n p k q : ℕ} {more : List ℕ} → asked s b n p ≡ none → Refused s (children (slice_index s p) b ++ more)
      (n + 1) (p + width (slice_index s p)) k q → Refused s (b ∷ more) n p k q
  spare : {n p : ℕ} → p < length s → Refused s [] n p 9 p

-- s is refused, with this number and place: one tree is to come behind the first 4 bytes, with the readings in force
abbrev pub Refusal : List ℕ → ℕ → ℕ → Type 0
Refusal s k q = (front s ≡ some (k, q)) ⊎ ((front s ≡ none) × Refused s (slice_index s 3 ∷ []) 0 4 k q)
