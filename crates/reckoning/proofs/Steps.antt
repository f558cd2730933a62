-- Granted steps, one after another.
use mathlib.Core.Path.{◌≡◌, refl, sym, ◌∙◌, ap}
use native.Mathlib.Omega.{arith}
use Prim.Native.Nat.{ℕ, zero, suc, ◌+◌, ◌-◌}
use Rattle.reckoning.specs.Moves.{move}
use Rattle.reckoning.specs.Room.{Room}
use Rattle.reckoning.specs.Reckoning.{Reckoned, State, waiting, over, no_store, no_stack, state, reduces, if_waiting}
use Rattle.reckoning.specs.Reckoning.{granted, steps}
use Rattle.reckoning.specs.Laws.{StepsAddUp, Stays}

pub steps_add_up : StepsAddUp
steps_add_up room s zero n = let e : 0 + n ≡ n = omega arith in sym (ap (λ k. steps room k s) e)
steps_add_up room s (suc m) n =
    let e : suc m + n ≡ suc (m + n) = omega arith in
    ap (λ x. granted room x) (steps_add_up room s m n) ∙ sym (ap (λ k. steps room k s) e)

if_not_waiting : (st : State) (x y : Reckoned) → ¬ (st ≡ waiting) → if_waiting st x y ≡ y
if_not_waiting waiting x y h = absurd (h refl)
if_not_waiting (over a) x y h = refl
if_not_waiting (no_store n) x y h = refl
if_not_waiting (no_stack n) x y h = refl

steps_from_stopped : (room : Room) (s : Reckoned) (m : ℕ) → ¬ (state s ≡ waiting) → steps room m s ≡ s
steps_from_stopped room s zero h = refl
steps_from_stopped room s (suc m) h =
    ap (λ x. granted room x) (steps_from_stopped room s m h) ∙ if_not_waiting (state s) (reduces room s (move s.work))
    s h

pub stays : Stays
stays room s m n h not =
    let e : m ≡ (m - n) + n = omega arith in
    ap (λ k. steps room k s) e ∙ sym (steps_add_up room s (m - n) n) ∙
    steps_from_stopped room (steps room n s) (m - n) not
