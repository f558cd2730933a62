-- What is open in a work is what is open in its stage.
use mathlib.Core.List.{List, [], ◌∷◌}
use mathlib.Core.Option.{Option, none, some}
use mathlib.Core.Path.{◌≡◌, refl, sym, ◌∙◌, ap}
use native.Mathlib.Omega.{arith}
use Prim.Native.Nat.{ℕ}
use Rattle.std.specs.Prelude.{◌↔◌}
use Rattle.calculus.specs.Open.{right_or_left, open_operations}
use Rattle.reckoning.specs.Environments.{Value, number, truth, function, value_term}
use Rattle.reckoning.specs.Work.{Work, done, unbound, application, let_in, sum, at_most, if_else, as_stage}
use Rattle.reckoning.specs.Moves.{Move, rests, beyond, stuck, plain, makes, move}
use Rattle.reckoning.specs.Open.{open_nodes, nth, one_too_many}
use Rattle.reckoning.specs.Reckoning.{Reckoned, State, no_stack, result, ahead, shortage, state}

value_open : (v : Value) → [] ≡ open_operations (value_term v)
value_open (number k) = refl
value_open (truth b) = refl
value_open (function n b env) = refl

operands_open : (n : ℕ) {left left' right right' : List ℕ} → left ≡ left' → right ≡ right' →
    n ∷ right_or_left right left ≡ n ∷ right_or_left right' left'
operands_open n {left} {left'} {right} {right'} e f =
    ap (λ x. n ∷ right_or_left right x) e ∙ ap (λ x. n ∷ right_or_left x left') f

pub stage_open : (w : Work) → open_nodes w ≡ open_operations (as_stage w)
stage_open (done v) = value_open v
stage_open (unbound d) = refl
stage_open (application n f a) = operands_open n (stage_open f) (stage_open a)
stage_open (let_in n e b env) = ap (λ x. n ∷ x) (stage_open e)
stage_open (sum n l r) = operands_open n (stage_open l) (stage_open r)
stage_open (at_most n l r) = operands_open n (stage_open l) (stage_open r)
stage_open (if_else n c t e env) = ap (λ x. n ∷ x) (stage_open c)

-- no stack is told of the 257th open operation alone

result_no_stack : (w : Work) (n : ℕ) → ¬ (result w ≡ no_stack n)
result_no_stack (done v) n e = let z : ◌≡◌ {A = ℕ} 0 1 = cc in omega arith
result_no_stack (unbound d) n e = let z : ◌≡◌ {A = ℕ} 0 1 = cc in omega arith
result_no_stack (application m f a) n e = let z : ◌≡◌ {A = ℕ} 0 1 = cc in omega arith
result_no_stack (let_in m x b env) n e = let z : ◌≡◌ {A = ℕ} 0 1 = cc in omega arith
result_no_stack (sum m l r) n e = let z : ◌≡◌ {A = ℕ} 0 1 = cc in omega arith
result_no_stack (at_most m l r) n e = let z : ◌≡◌ {A = ℕ} 0 1 = cc in omega arith
result_no_stack (if_else m c t x env) n e = let z : ◌≡◌ {A = ℕ} 0 1 = cc in omega arith

ahead_no_stack : (w : Work) (m : Move) (n : ℕ) → ¬ (ahead w m ≡ no_stack n)
ahead_no_stack w rests n e = result_no_stack w n e
ahead_no_stack w (beyond m) n e = let z : ◌≡◌ {A = ℕ} 0 1 = cc in omega arith
ahead_no_stack w stuck n e = let z : ◌≡◌ {A = ℕ} 0 1 = cc in omega arith
ahead_no_stack w (plain u) n e = let z : ◌≡◌ {A = ℕ} 0 1 = cc in omega arith
ahead_no_stack w (makes m env u) n e = let z : ◌≡◌ {A = ℕ} 0 1 = cc in omega arith

shortage_no_stack : (o : Option ℕ) (otherwise : State) (n : ℕ) → ¬ (otherwise ≡ no_stack n) →
    (shortage none o otherwise ≡ no_stack n) ↔ (o ≡ some n)
shortage_no_stack none otherwise n h = (λ e. absurd (h e), λ e. let z : ◌≡◌ {A = ℕ} 0 1 = cc in absurd (omega arith))
shortage_no_stack (some m) otherwise n h = (
  λ e. let f : m ≡ n = cc in ap some f,
  λ e. let f : m ≡ n = cc in
      ap no_stack f,
)

pub no_stack_at : (s : Reckoned) (nodes : List ℕ) → s.refused ≡ none → open_nodes s.work ≡ nodes → (n : ℕ) →
    (state s ≡ no_stack n) ↔ (nth 256 nodes ≡ some n)
no_stack_at s nodes e f n =
    let told : state s ≡ shortage none (nth 256 nodes) (ahead s.work (move s.work)) =
    ap (λ x. shortage x (one_too_many s.work) (ahead s.work (move s.work))) e ∙
    ap (λ x. shortage none (nth 256 x) (ahead s.work (move s.work))) f in
    let either = shortage_no_stack (nth 256 nodes) (ahead s.work (move s.work)) n
    (ahead_no_stack s.work (move s.work) n) in
    (λ g. either.0 (sym told ∙ g), λ g. told ∙ either.1 g)
