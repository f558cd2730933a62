-- What comes next for a term, computed.
use Rattle.std.specs.Prelude.{Bool, true, false, ℤ, ℕ}
use Rattle.std.proofs.Math.Option.{Option, none, some}
use Rattle.std.specs.Int.Signed.{le_z}
use Rattle.calculus.specs.Term.{Term, number, truth, variable, function, application, let_in, sum, at_most, if_else}
use Rattle.calculus.specs.Values.{number_of, truth_of, body_of}
use Rattle.calculus.specs.Substitution.{put_one}
use Rattle.calculus.specs.Range.{Sum, within, out_of_range, sum_of}

-- what comes next for a term
pub data Next : Type 0 where
  -- nothing: it is a value
  rests : Next
  -- the sum at this node is next, and it leaves the number range
  beyond : ℕ → Next
  -- nothing fits
  stuck : Next
  -- the term that one reduction makes of it
  to : Term → Next

-- one child first: as long as it is not a value, what comes next is what comes next for the child
abbrev pub first : Next → (Term → Term) → Next → Next
first rests around onward = onward
first (beyond n) around onward = beyond n
first stuck around onward = stuck
first (to t) around onward = to (around t)

-- two children: the right one before the left one
abbrev pub right_left : (Term → Term → Term) → Term → Term → Next → Next → Next → Next
right_left node l r next_l next_r onward = first next_r (λ r'. node l r') (first next_l (λ l'. node l' r) onward)

-- the reductions, once the children that come first are values
--   (fun x -> b) v  ⟶  b[v/x]
abbrev pub apply : Option Term → Term → Next
apply none v = stuck
apply (some b) v = to (put_one v b)

--   i + j  ⟶  k      with k their sum, within the range
abbrev pub added : ℕ → Sum → Next
added n (within k) = to (number k)
added n out_of_range = beyond n

abbrev pub add : ℕ → Option ℤ → Option ℤ → Next
add n none j = stuck
add n (some i) none = stuck
add n (some i) (some j) = added n (sum_of i j)

--   i <= j  ⟶  true or false
abbrev pub compare : Option ℤ → Option ℤ → Next
compare none j = stuck
compare (some i) none = stuck
compare (some i) (some j) = to (truth (le_z i j))

--   if true then t else e  ⟶  t      if false then t else e  ⟶  e
abbrev pub choose : Option Bool → Term → Term → Next
choose none t e = stuck
choose (some true) t e = to t
choose (some false) t e = to e

-- what comes next; nothing is reduced inside a function, a let's body or a branch
abbrev pub step : Term → Next
step (number k) = rests
step (truth b) = rests
step (variable d) = stuck
step (function n b) = rests
step (application n f a) = right_left (application n) f a (step f) (step a) (apply (body_of f) a)
step (let_in n e b) = first (step e) (λ e'. let_in n e' b) (to (put_one e b))
step (sum n l r) = right_left (sum n) l r (step l) (step r) (add n (number_of l) (number_of r))
step (at_most n l r) = right_left (at_most n) l r (step l) (step r) (compare (number_of l) (number_of r))
step (if_else n c t e) = first (step c) (λ c'. if_else n c' t e) (choose (truth_of c) t e)
