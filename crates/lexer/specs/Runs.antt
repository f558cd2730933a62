-- Runs of bytes of one kind.
use Rattle.std.specs.Prelude.{◌≡◌, ℕ, ◌<◌, ◌≤◌, Bool, true, false, List, length, slice_index}
use Rattle.grammar.specs.Spelling.{blank, digit, word_byte}
use Rattle.lexer.specs.declared.run.Kind.{Kind}
use Rattle.lexer.specs.declared.run.Kind.TheVariants.{Blank, Digit, Word}

abbrev pub belongs : Kind → ℕ → Bool
belongs Blank c = blank c
belongs Digit c = digit c
belongs Word c = word_byte c

-- from `a` up to `b` all bytes are of a kind, and then one is not, or the text ends
pub record Run (k : Kind) (s : List ℕ) (a b : ℕ) : Type 0 where
  pub from : a ≤ b
  pub inside : b ≤ length s
  pub of_kind : (i : ℕ) → a ≤ i → i < b → belongs k (slice_index s i) ≡ true
  pub stops : b < length s → belongs k (slice_index s b) ≡ false
