-- How a text is cut into tokens: blanks are passed over, and the longest token wins.
use Rattle.std.specs.Prelude.{◌≡◌, ℕ, ◌<◌, ◌≤◌, true, false, ◌⊎◌, List, length, slice_index, slice_range}
use Rattle.std.proofs.Math.Option.{some, none}
use Rattle.grammar.specs.Token.{Token, end}
use Rattle.grammar.specs.Spelling.{blank, token}

-- the bytes from one place up to another
abbrev pub part : List ℕ → ℕ → ℕ → List ℕ
part s a b = slice_range s a b

-- only blanks stand between
abbrev pub Blanks : List ℕ → ℕ → ℕ → Type 0
Blanks s a b = (a ≤ b) × (b ≤ length s) × ((i : ℕ) → a ≤ i → i < b → blank (slice_index s i) ≡ true)

-- from this place on, no longer bytes spell a token
abbrev pub NoneBeyond : List ℕ → ℕ → ℕ → Type 0
NoneBeyond s place stop = (n : ℕ) → stop < n → n ≤ length s → token (part s place n) ≡ none

pub record Longest (s : List ℕ) (place stop : ℕ) (t : Token) : Type 0 where
  pub some_bytes : place < stop
  pub inside : stop ≤ length s
  pub spells : token (part s place stop) ≡ some t
  pub longest : NoneBeyond s place stop

-- The next token after `from` begins at `place` and stops before `stop`. The end stands behind all bytes.
abbrev pub Next : List ℕ → ℕ → Token → ℕ → ℕ → Type 0
Next s from t place stop = Blanks s from place × (((t ≡ end) × (place ≡ length s) × (stop ≡ place))
    ⊎ Longest s place stop t)

-- a byte that is no blank stands at `place`, and no token begins there
abbrev pub NoNext : List ℕ → ℕ → ℕ → Type 0
NoNext s from place = Blanks s from place × (place < length s) × (blank (slice_index s place) ≡ false)
    × NoneBeyond s place place
