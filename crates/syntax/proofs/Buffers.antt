-- What stands at the front of a buffer and what behind it.
use Rattle.std.proofs.Common.{◌≡◌, ℕ, ◌+◌, ◌≤◌, List, ◌++◌, length, take, drop, Ok, Result, sym, ap, ◌∙◌, subst}
use Rattle.std.proofs.Common.{arith, length-append}
use Rattle.std.proofs.lemmas.List.{take_at, drop_at, take-append-drop}
use Rattle.syntax.specs.Buffers.{OnlyFront}

module _ (w before after : List ℕ) (n : ℕ) (counted : n ≡ length w) (stands : after ≡ w ++ drop n before) where
  -- what was written is the front
  pub front_is : take n after ≡ w
  front_is = ap (take n) stands ∙ take_at w (drop n before) n (sym counted)

  pub only_front : (F : Type 0) → OnlyFront {F = F} before after (Ok n)
  only_front F = (
    omega (arith, ap length stands, length-append w (drop n before)),
    ap (drop n) stands ∙ drop_at w (drop n before) n (sym counted),
  )

-- the buffer is its front and what was there behind it
pub front_and_rest : (F : Type 0) (before after : List ℕ) (n : ℕ) → OnlyFront {F = F} before after (Ok n)
    → after ≡ take n after ++ drop n before
front_and_rest F before after n h = sym (take-append-drop n after) ∙ ap (λ l. take n after ++ l) h.1
