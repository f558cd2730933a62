-- What is told of a work whose next reduction is known.
use Rattle.std.proofs.Common.{◌≡◌, ℕ, zero, suc, ◌-◌, ◌<◌, ◌≤◌, Bool, true, false, List, [], ◌∷◌, length, ℤ, refl}
use Rattle.std.proofs.Common.{sym, ap, ◌∙◌, subst, arith}
use Rattle.std.proofs.Math.Option.{none, some}
use Rattle.store.specs.Lists.{Lists}
use Rattle.values.specs.declared.Value.{Value}
use Rattle.values.specs.declared.Value.TheVariants.{Number, Truth, Function}
use Rattle.calculus.specs.Term.{Term}
use Rattle.calculus.specs.Range.{Sum, sum_of}
use Rattle.arithmetic.specs.Sums.{as_result}
use Rattle.calculus.specs.Length.{Answer}
use Rattle.reckoning.specs.Environments.{Env}
use Rattle.reckoning.specs.Environments as plain
use Rattle.reckoning.specs.Work.{Work, done}
use Rattle.reckoning.specs.Moves.{Move, rests, beyond, stuck, plain, makes, added, move}
use Rattle.reckoning.specs.Open.{open_nodes, nth, one_too_many}
use Rattle.reckoning.specs.Contexts.{Open, applied, bound, compare_left, condition, node_of, inside, plugged}
use Rattle.reckoning.specs.Contexts.{nodes_before, within}
use Rattle.reckoning.specs.Reckoning.{State, waiting, over, no_stack, shortage, ahead}
use Rattle.reckoning.proofs.Contexts.{moves_inside}
use Rattle.machine.specs.declared.operation.Operation.{Operation}
use Rattle.machine.specs.declared.operation.Operation.TheVariants.{Argument, Applied, Bound, SumRight, SumLeft}
use Rattle.machine.specs.declared.operation.Operation.TheVariants.{CompareRight, CompareLeft, Condition}
use Rattle.machine.specs.declared.operations.Operations.{Operations}
use Rattle.machine.specs.Handles.{StandsFor}
use Rattle.machine.specs.Opens.{OpenFor, op_at, Stacked, IsReady}
use Rattle.machine.specs.Standing.{HasFound, Readied, InHand}
use Rattle.machine.specs.Running.{answer_of, state_of, tells, sum_ahead}
use Rattle.machine.proofs.Stacking.{stacked_length}
use Rattle.machine.proofs.Settling.{taken}
use Rattle.machine.proofs.Reductions.{moved, sum_moves, no_left_added, no_right_added}
use Rattle.machine.specs.Places.{Rule}

-- a move after which the run waits
abbrev Waits : Move → Type 0
Waits rests = ⊥
Waits (beyond n) = ⊥
Waits stuck = Unit {0}
Waits (plain w) = Unit {0}
Waits (makes n env w) = Unit {0}

waits_ahead : (w : Work) (f : Work → Work) (m : Move) → Waits m → ahead w (within f m) ≡ waiting
waits_ahead w f rests h = absurd h
waits_ahead w f (beyond n) h = absurd h
waits_ahead w f stuck h = refl
waits_ahead w f (plain u) h = refl
waits_ahead w f (makes n env u) h = refl

waits_not_rests : (m : Move) → Waits m → ¬ (m ≡ rests)
waits_not_rests m h e = subst Waits e h

applied_waits : (n : ℕ) (u v : plain.Value) → Waits (move (inside (applied n u) (done v)))
applied_waits n u (plain.number k) = tt
applied_waits n u (plain.truth b) = tt
applied_waits n u (plain.function m b env) = tt

compare_waits : (n : ℕ) (u v : plain.Value) → Waits (move (inside (compare_left n u) (done v)))
compare_waits n (plain.number j) (plain.number k) = tt
compare_waits n (plain.truth c) (plain.number k) = tt
compare_waits n (plain.function m b env) (plain.number k) = tt
compare_waits n u (plain.truth b) = tt
compare_waits n u (plain.function m b env) = tt

condition_waits : (n : ℕ) (t e : Term) (env : Env) (v : plain.Value)
    → Waits (move (inside (condition n t e env) (done v)))
condition_waits n t e env (plain.number k) = tt
condition_waits n t e env (plain.truth true) = tt
condition_waits n t e env (plain.truth false) = tt
condition_waits n t e env (plain.function m b f) = tt

module _ (rule : Rule) (lists : Lists Value) (ops : List Operation) (d : ℕ) where
  waits_inside : (op : Operation) (x : Value) (w : Work) (t : InHand rule lists ops d op x w) (o : Open) → t.first ≡ o →
      Waits (move (inside o (done t.value))) → ahead w (move w) ≡ waiting
  waits_inside op x w t o e h =
      let m = move (inside o (done t.value)) in
      ap (λ y. ahead w y) (moved rule lists ops d op x w t o t.value m e refl refl (waits_not_rests m h))
      ∙ waits_ahead w (plugged t.rest) m h

  pub told : (op : Operation) (x : Value) (w : Work) → IsReady op → ((n : ℕ) (y : Value) → op ≡ SumLeft n y → ⊥)
      → InHand rule lists ops d op x w → ahead w (move w) ≡ waiting
  told (Argument n p h) x w ready not t = absurd ready
  told (SumRight n p h) x w ready not t = absurd ready
  told (CompareRight n p h) x w ready not t = absurd ready
  told (SumLeft n y) x w ready not t = absurd (not n y refl)
  told (Applied n y) x w ready not t =
      let o = t.open_for in
      waits_inside (Applied n y) x w t (applied n o.0) o.1 (applied_waits n o.0 t.value)
  told (Bound n p h) x w ready not t =
      let o = t.open_for in
      waits_inside (Bound n p h) x w t (bound n o.0 o.1) o.2 tt
  told (CompareLeft n y) x w ready not t =
      let o = t.open_for in
      waits_inside (CompareLeft n y) x w t (compare_left n o.0) o.1 (compare_waits n o.0 t.value)
  told (Condition n p q h) x w ready not t =
      let o = t.open_for in
      waits_inside (Condition n p q h) x w t (condition n o.0 o.1 o.2) o.3 (condition_waits n o.0 o.1 o.2 t.value)

  sum_told_as : (n : ℕ) (i j : ℤ) (w : Work) (s : Sum) → sum_of i j ≡ s
      → InHand rule lists ops d (SumLeft n (Number j)) (Number i) w →
      ahead w (move w) ≡ state_of (sum_ahead n (Number j) (Number i))
  sum_told_as n i j w (Sum.within k) e t =
      ap (λ y. ahead w y) (sum_moves rule lists ops d n i j w t (plain (done (plain.number k)))
      (ap (λ x. added n x) e)
      (waits_not_rests _ tt)) ∙ sym (ap (λ x. state_of (tells n (as_result x))) e)
  sum_told_as n i j w Sum.out_of_range e t =
      ap (λ y. ahead w y) (sum_moves rule lists ops d n i j w t (beyond n)
      (ap (λ x. added n x) e)
      (λ f. let z : ◌≡◌ {A = ℕ} 0 1 = cc in omega arith)) ∙ sym (ap (λ x. state_of (tells n (as_result x))) e)

  stuck_told : (w : Work) → move w ≡ stuck → ahead w (move w) ≡ waiting
  stuck_told w e = ap (λ y. ahead w y) e

  not_number_truth : (c : Bool) (i : ℤ) → Truth c ≡ Number i → ⊥
  not_number_truth c i e = let z : ◌≡◌ {A = ℕ} 0 1 = cc in omega arith

  not_number_function : (m h : ℕ) (i : ℤ) → Function m h ≡ Number i → ⊥
  not_number_function m h i e = let z : ◌≡◌ {A = ℕ} 0 1 = cc in omega arith

  pub sum_told : (n : ℕ) (y x : Value) (w : Work) → InHand rule lists ops d (SumLeft n y) x w
      → state_of (sum_ahead n y x) ≡ ahead w (move w)
  sum_told n (Number j) (Number i) w t = sym (sum_told_as n i j w (sum_of i j) refl t)
  sum_told n (Number j) (Truth c) w t = sym (stuck_told w (no_left_added rule lists ops d n (Number j) (Truth c) w
      (not_number_truth c) t))
  sum_told n (Number j) (Function m h) w t =
      sym (stuck_told w (no_left_added rule lists ops d n (Number j) (Function m h) w (not_number_function m h) t))
  sum_told n (Truth b) (Number i) w t =
      sym (stuck_told w (no_right_added rule lists ops d n (Truth b) i w (not_number_truth b) t))
  sum_told n (Truth b) (Truth c) w t = sym (stuck_told w (no_left_added rule lists ops d n (Truth b) (Truth c) w
      (not_number_truth c) t))
  sum_told n (Truth b) (Function m h) w t =
      sym (stuck_told w (no_left_added rule lists ops d n (Truth b) (Function m h) w (not_number_function m h) t))
  sum_told n (Function k g) (Number i) w t = sym (stuck_told w (no_right_added rule lists ops d n (Function k g) i w
      (not_number_function k g) t))
  sum_told n (Function k g) (Truth c) w t =
      sym (stuck_told w (no_left_added rule lists ops d n (Function k g) (Truth c) w (not_number_truth c) t))
  sum_told n (Function k g) (Function m h) w t =
      sym (stuck_told w (no_left_added rule lists ops d n (Function k g) (Function m h) w (not_number_function m h) t))

  -- with at most 256 operations open, none is one too many

  open_once : (op : Operation) (o : Open) (v : plain.Value) → IsReady op → OpenFor rule lists op o
      → open_nodes (inside o (done v)) ≡ node_of o ∷ []
  open_once (Argument n p h) o v ready s = absurd ready
  open_once (SumRight n p h) o v ready s = absurd ready
  open_once (CompareRight n p h) o v ready s = absurd ready
  open_once (SumLeft n y) o v ready s = subst (λ o. open_nodes (inside o (done v)) ≡ node_of o ∷ []) (sym s.1) refl
  open_once (Applied n y) o v ready s = subst (λ o. open_nodes (inside o (done v)) ≡ node_of o ∷ []) (sym s.1) refl
  open_once (Bound n p h) o v ready s = subst (λ o. open_nodes (inside o (done v)) ≡ node_of o ∷ []) (sym s.2) refl
  open_once (CompareLeft n y) o v ready s = subst (λ o. open_nodes (inside o (done v)) ≡ node_of o ∷ []) (sym s.1) refl
  open_once (Condition n p q h) o v ready s = subst (λ o. open_nodes (inside o (done v)) ≡ node_of o ∷ [])
      (sym s.3) refl

  pub none_too_many : (op : Operation) (x : Value) (w : Work) → IsReady op → d < 256 → InHand rule lists ops d op x w
      → one_too_many w ≡ none
  none_too_many op x w ready low t =
      let once = open_once op t.first t.value ready t.open_for in
      let some_open : ¬ (open_nodes (inside t.first (done t.value)) ≡ []) = λ f.
      let g : node_of t.first ∷ [] ≡ [] = sym once ∙ f in let z : ◌≡◌ {A = ℕ} 0 1 = cc in omega arith in
      let long : length t.rest ≡ d = stacked_length rule lists ops d t.rest t.stacked in
      ap (λ y. one_too_many y) (sym t.whole)
      ∙ ap (λ y. nth 256 y) (moves_inside.same_open t.rest (inside t.first (done t.value)) some_open
      ∙ ap (λ y. nodes_before t.rest y) once) ∙
      moves_inside.no_more t.rest (node_of t.first) (omega arith)

module _ (rule : Rule) (lists : Lists Value) (table : Operations) where
  pub on_top : (op : Operation) (x : Value) (w : Work) → op ≡ op_at table.ops (table.depth - 1)
      → Readied rule lists table x w → InHand rule lists table.ops (table.depth - 1) op x w
  on_top op x w e r = let h = r.some_open in taken rule lists table x w op (table.depth - 1) h (omega arith)
      (sym e) r.found

  pub ready_rests : (x : Value) (w : Work) (st : State) → table.depth ≤ 256 → Readied rule lists table x w
      → st ≡ ahead w (move w) → st ≡ shortage none (one_too_many w) (ahead w (move w))
  ready_rests x w st low r e =
      let t = on_top (op_at table.ops (table.depth - 1)) x w refl r in
      let h = r.some_open in
      e ∙ sym (ap (λ y. shortage none y (ahead w (move w))) (none_too_many rule lists table.ops (table.depth - 1)
      (op_at table.ops (table.depth - 1)) x w r.ready (omega arith) t))

  pub no_stack_rests : (w : Work) (n : ℕ) → one_too_many w ≡ some n → no_stack n ≡ shortage none (one_too_many w)
      (ahead w (move w))
  no_stack_rests w n e = sym (ap (λ y. shortage none y (ahead w (move w))) e)

  answers : (x : Value) (v : plain.Value) → StandsFor rule lists x v → answer_of x ≡ plain.answer_of v
  answers (Number i) (plain.number k) s = ap Answer.number s
  answers (Number i) (plain.truth b) s = absurd s
  answers (Number i) (plain.function n b env) s = absurd s
  answers (Truth c) (plain.number k) s = absurd s
  answers (Truth c) (plain.truth b) s = ap Answer.truth s
  answers (Truth c) (plain.function n b env) s = absurd s
  answers (Function m h) (plain.number k) s = absurd s
  answers (Function m h) (plain.truth b) s = absurd s
  answers (Function m h) (plain.function n b env) s = ap Answer.function s.0

  none_open : (d : ℕ) (os : List Open) → d ≡ 0 → Stacked rule lists table.ops d os → os ≡ []
  none_open zero [] e s = refl
  none_open zero (o ∷ os) e s = absurd s
  none_open (suc d) os e s = absurd (omega arith)

  pub over_rests : (x : Value) (w : Work) → table.depth ≡ 0 → HasFound rule lists table x w
      → over (answer_of x) ≡ shortage none (one_too_many w) (ahead w (move w))
  over_rests x w e f =
      let is : done f.value ≡ w = ap (λ os. plugged os (done f.value))
      (sym (none_open table.depth f.opens e f.stacked)) ∙ f.whole in
      ap over (answers x f.value f.stands) ∙ ap (λ y. shortage none (one_too_many y) (ahead y (move y))) is
