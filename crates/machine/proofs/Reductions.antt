-- The innermost operation is reduced.
use Rattle.std.proofs.Common.{◌≡◌, ℕ, Bool, true, false, List, ℤ, refl, sym, ap, ◌∙◌, subst, arith}
use Rattle.std.specs.Int.Signed.{le_z}
use Rattle.store.specs.Lists.{Lists}
use Rattle.values.specs.declared.Value.{Value}
use Rattle.values.specs.declared.Value.TheVariants.{Number, Truth, Function}
use Rattle.calculus.specs.Term.{Term}
use Rattle.calculus.specs.Range.{Sum, sum_of}
use Rattle.arithmetic.specs.declared.OutOfRange.{OutOfRange}
use Rattle.reckoning.specs.Environments.{Env, ◌before◌, size}
use Rattle.reckoning.specs.Environments as plain
use Rattle.reckoning.specs.Work.{Work, done, met}
use Rattle.reckoning.specs.Moves.{Move, rests, beyond, stuck, plain, makes, added, move}
use Rattle.reckoning.specs.Contexts.{Open, applied, sum_left, compare_left, condition, inside, plugged, within}
use Rattle.reckoning.specs.Room.{Room}
use Rattle.reckoning.proofs.Contexts.{moves_inside}
use Rattle.machine.specs.declared.operation.Operation.{Operation}
use Rattle.machine.specs.declared.operation.Operation.TheVariants.{SumLeft, CompareLeft, Condition}
use Rattle.machine.specs.declared.operations.Operations.{Operations}
use Rattle.machine.specs.declared.reduce.Reduced.TheVariants as reduced
use Rattle.machine.specs.Handles.{StandsFor}
use Rattle.machine.specs.Standing.{InHand}
use Rattle.machine.specs.Reducing.{Moved, Reduces}
use Rattle.machine.specs.Places.{Rule}

-- what a run value that is no number, or no truth, stands for

abbrev pub NotNumber : Value → Type 0
NotNumber x = (i : ℤ) → x ≡ Number i → ⊥

abbrev pub NotTruth : Value → Type 0
NotTruth x = (b : Bool) → x ≡ Truth b → ⊥

abbrev pub NotFunction : Value → Type 0
NotFunction x = (n h : ℕ) → x ≡ Function n h → ⊥

module _ (rule : Rule) (lists : Lists Value) where
  pub is_number : (i : ℤ) (v : plain.Value) → StandsFor rule lists (Number i) v → v ≡ plain.number i
  is_number i (plain.number k) s = ap plain.number (sym s)
  is_number i (plain.truth b) s = absurd s
  is_number i (plain.function n b env) s = absurd s

  pub is_truth : (c : Bool) (v : plain.Value) → StandsFor rule lists (Truth c) v → v ≡ plain.truth c
  is_truth c (plain.number k) s = absurd s
  is_truth c (plain.truth b) s = ap plain.truth (sym s)
  is_truth c (plain.function n b env) s = absurd s

  -- a value that is not of the kind wanted: nothing fits

  sum_left_stuck : (n : ℕ) (u : plain.Value) (x : Value) (v : plain.Value) → NotNumber x → StandsFor rule lists x v
      → move (inside (sum_left n u) (done v)) ≡ stuck
  sum_left_stuck n u (Number i) v not s = absurd (not i refl)
  sum_left_stuck n u (Truth c) (plain.number k) not s = absurd s
  sum_left_stuck n u (Function m h) (plain.number k) not s = absurd s
  sum_left_stuck n u (Truth c) (plain.truth b) not s = refl
  sum_left_stuck n u (Function m h) (plain.truth b) not s = refl
  sum_left_stuck n u (Truth c) (plain.function m b env) not s = refl
  sum_left_stuck n u (Function m h) (plain.function k b env) not s = refl

  sum_right_stuck : (n : ℕ) (i : ℤ) (y : Value) (u : plain.Value) → NotNumber y → StandsFor rule lists y u
      → move (inside (sum_left n u) (done (plain.number i))) ≡ stuck
  sum_right_stuck n i (Number j) u not s = absurd (not j refl)
  sum_right_stuck n i (Truth c) (plain.number k) not s = absurd s
  sum_right_stuck n i (Function m h) (plain.number k) not s = absurd s
  sum_right_stuck n i (Truth c) (plain.truth b) not s = refl
  sum_right_stuck n i (Function m h) (plain.truth b) not s = refl
  sum_right_stuck n i (Truth c) (plain.function m b env) not s = refl
  sum_right_stuck n i (Function m h) (plain.function k b env) not s = refl

  compare_left_stuck : (n : ℕ) (u : plain.Value) (x : Value) (v : plain.Value) → NotNumber x
      → StandsFor rule lists x v → move (inside (compare_left n u) (done v)) ≡ stuck
  compare_left_stuck n u (Number i) v not s = absurd (not i refl)
  compare_left_stuck n u (Truth c) (plain.number k) not s = absurd s
  compare_left_stuck n u (Function m h) (plain.number k) not s = absurd s
  compare_left_stuck n u (Truth c) (plain.truth b) not s = refl
  compare_left_stuck n u (Function m h) (plain.truth b) not s = refl
  compare_left_stuck n u (Truth c) (plain.function m b env) not s = refl
  compare_left_stuck n u (Function m h) (plain.function k b env) not s = refl

  compare_right_stuck : (n : ℕ) (i : ℤ) (y : Value) (u : plain.Value) → NotNumber y → StandsFor rule lists y u
      → move (inside (compare_left n u) (done (plain.number i))) ≡ stuck
  compare_right_stuck n i (Number j) u not s = absurd (not j refl)
  compare_right_stuck n i (Truth c) (plain.number k) not s = absurd s
  compare_right_stuck n i (Function m h) (plain.number k) not s = absurd s
  compare_right_stuck n i (Truth c) (plain.truth b) not s = refl
  compare_right_stuck n i (Function m h) (plain.truth b) not s = refl
  compare_right_stuck n i (Truth c) (plain.function m b env) not s = refl
  compare_right_stuck n i (Function m h) (plain.function k b env) not s = refl

  condition_stuck : (n : ℕ) (t e : Term) (env : Env) (x : Value) (v : plain.Value) → NotTruth x
      → StandsFor rule lists x v → move (inside (condition n t e env) (done v)) ≡ stuck
  condition_stuck n t e env (Truth c) v not s = absurd (not c refl)
  condition_stuck n t e env (Number i) (plain.truth b) not s = absurd s
  condition_stuck n t e env (Function m h) (plain.truth b) not s = absurd s
  condition_stuck n t e env (Number i) (plain.number k) not s = refl
  condition_stuck n t e env (Function m h) (plain.number k) not s = refl
  condition_stuck n t e env (Number i) (plain.function m b f) not s = refl
  condition_stuck n t e env (Function m h) (plain.function k b f) not s = refl

  pub applied_stuck : (n : ℕ) (u : plain.Value) (x : Value) (v : plain.Value) → NotFunction x
      → StandsFor rule lists x v → move (inside (applied n u) (done v)) ≡ stuck
  applied_stuck n u (Function m h) v not s = absurd (not m h refl)
  applied_stuck n u (Number i) (plain.function m b f) not s = absurd s
  applied_stuck n u (Truth c) (plain.function m b f) not s = absurd s
  applied_stuck n u (Number i) (plain.number k) not s = refl
  applied_stuck n u (Truth c) (plain.number k) not s = refl
  applied_stuck n u (Number i) (plain.truth b) not s = refl
  applied_stuck n u (Truth c) (plain.truth b) not s = refl

  module _ (ops : List Operation) (d : ℕ) (op : Operation) (x : Value) (w : Work) (t : InHand rule lists ops d op x w)
    where
      -- the whole moves as the operation in hand does
      pub moved : (o : Open) (v : plain.Value) (m : Move) → t.first ≡ o → t.value ≡ v → move (inside o (done v)) ≡ m
          → ¬ (m ≡ rests) → move w ≡ within (plugged t.rest) m
      moved o v m a b e n =
          let inner : move (inside t.first (done t.value)) ≡ m = ap (λ y. move (inside y (done t.value))) a
          ∙ ap (λ y. move (inside o (done y))) b ∙ e in
          ap (λ y. move y) (sym t.whole) ∙ moves_inside.same_move t.rest (inside t.first (done t.value))
          (λ r. n (sym inner ∙ r)) ∙ ap (λ y. within (plugged t.rest) y) inner

not_plain : (w : Work) → ¬ (plain w ≡ rests)
not_plain w e = let z : ◌≡◌ {A = ℕ} 0 1 = cc in omega arith

not_beyond : (n : ℕ) → ¬ (beyond n ≡ rests)
not_beyond n e = let z : ◌≡◌ {A = ℕ} 0 1 = cc in omega arith

not_makes : (n : ℕ) (env : Env) (w : Work) → ¬ (makes n env w ≡ rests)
not_makes n env w e = let z : ◌≡◌ {A = ℕ} 0 1 = cc in omega arith

not_stuck : ¬ (stuck ≡ rests)
not_stuck e = let z : ◌≡◌ {A = ℕ} 0 1 = cc in omega arith

-- what does not fit moves nowhere
module _ (rule : Rule) (lists : Lists Value) (ops : List Operation) (d : ℕ) where
  pub no_left_compared : (n : ℕ) (y x : Value) (w : Work) → NotNumber x → InHand rule lists ops d (CompareLeft n y) x
      w → move w ≡ stuck
  no_left_compared n y x w not t =
      let o = t.open_for in
      moved rule lists ops d (CompareLeft n y) x w t (compare_left n o.0) t.value stuck o.1 refl
      (compare_left_stuck rule lists n o.0 x t.value not t.stands) not_stuck

  pub no_right_compared : (n : ℕ) (y : Value) (i : ℤ) (w : Work) → NotNumber y
      → InHand rule lists ops d (CompareLeft n y) (Number i) w → move w ≡ stuck
  no_right_compared n y i w not t =
      let o = t.open_for in
      moved rule lists ops d (CompareLeft n y) (Number i) w t (compare_left n o.0) (plain.number i) stuck o.1
      (is_number rule lists i t.value t.stands)
      (compare_right_stuck rule lists n i y o.0 not o.2) not_stuck

  pub no_left_added : (n : ℕ) (y x : Value) (w : Work) → NotNumber x → InHand rule lists ops d (SumLeft n y) x w
      → move w ≡ stuck
  no_left_added n y x w not t =
      let o = t.open_for in
      moved rule lists ops d (SumLeft n y) x w t (sum_left n o.0) t.value stuck o.1 refl
      (sum_left_stuck rule lists n o.0 x t.value not t.stands) not_stuck

  pub no_right_added : (n : ℕ) (y : Value) (i : ℤ) (w : Work) → NotNumber y → InHand rule lists ops d (SumLeft n y)
      (Number i) w → move w ≡ stuck
  no_right_added n y i w not t =
      let o = t.open_for in
      moved rule lists ops d (SumLeft n y) (Number i) w t (sum_left n o.0) (plain.number i) stuck o.1
      (is_number rule lists i t.value t.stands)
      (sum_right_stuck rule lists n i y o.0 not o.2) not_stuck

  pub sum_moves : (n : ℕ) (i j : ℤ) (w : Work) (t : InHand rule lists ops d (SumLeft n (Number j)) (Number i) w)
      (m : Move) →
      added n (sum_of i j) ≡ m → ¬ (m ≡ rests) →
      move w ≡ within (plugged t.rest) m
  sum_moves n i j w t m e not =
      let o = t.open_for in
      moved rule lists ops d (SumLeft n (Number j)) (Number i) w t (sum_left n (plain.number j)) (plain.number i) m
      (o.1 ∙ ap (λ y. sum_left n y) (is_number rule lists j o.0 o.2)) (is_number rule lists i t.value t.stands) e not

  pub nothing_chosen : (n p q h : ℕ) (x : Value) (w : Work) → NotTruth x → InHand rule lists ops d (Condition n p q h)
      x w → move w ≡ stuck
  nothing_chosen n p q h x w not t =
      let o = t.open_for in
      moved rule lists ops d (Condition n p q h) x w t (condition n o.0 o.1 o.2) t.value stuck o.3 refl
      (condition_stuck rule lists n o.0 o.1 o.2 x t.value not t.stands) not_stuck

-- what the moves lead to
module _ (rule : Rule) (lists : Lists Value) (r : Room) (free : ℕ) (table : Operations) where
  pub compared : (n : ℕ) (i j : ℤ) (w : Work) → InHand rule lists table.ops table.depth (CompareLeft n (Number j))
      (Number i) w →
      Reduces rule r lists lists free free table (reduced.Found (Truth (le_z i j))) w
  compared n i j w t =
      let o = t.open_for in
      let rest = t.rest in
      let u = plugged rest (done (plain.truth (le_z i j))) in
      let e : move w ≡ plain u = moved rule lists table.ops table.depth (CompareLeft n (Number j)) (Number i) w t
      (compare_left n (plain.number j)) (plain.number i) (plain (done (plain.truth (le_z i j))))
      (o.1 ∙ ap (λ y. compare_left n y) (is_number rule lists j o.0 o.2)) (is_number rule lists i t.value t.stands)
      refl (not_plain _) in (
        u,
        subst (λ m. Moved rule r lists lists free free m u) (sym e) (refl, λ h. refl, refl),
        record {
          opens = rest;
          value = plain.truth (le_z i j);
          stacked = t.stacked;
          stands = refl;
          whole = refl;
        },
      )

  pub sum_found : (n : ℕ) (i j k : ℤ) (w : Work) → sum_of i j ≡ Sum.within k → InHand rule lists table.ops table.depth
      (SumLeft n (Number j)) (Number i) w →
      Reduces rule r lists lists free free table (reduced.Found (Number k)) w
  sum_found n i j k w e t =
      let rest = t.rest in
      let u = plugged rest (done (plain.number k)) in
      let to_u : move w ≡ plain u = sum_moves rule lists table.ops table.depth n i j w t
      (plain (done (plain.number k))) (ap (λ x. added n x) e) (not_plain _) in (
        u,
        subst (λ m. Moved rule r lists lists free free m u) (sym to_u) (refl, λ h. refl, refl),
        record {
          opens = rest;
          value = plain.number k;
          stacked = t.stacked;
          stands = refl;
          whole = refl;
        },
      )

  pub sum_leaves : (n : ℕ) (out : OutOfRange) (i j : ℤ) (w : Work) → sum_of i j ≡ Sum.out_of_range →
      InHand rule lists table.ops table.depth (SumLeft n (Number j)) (Number i) w →
      Reduces rule r lists lists free free table (reduced.Range n out) w
  sum_leaves n out i j w e t = (
    sum_moves rule lists table.ops table.depth n i j w t (beyond n) (ap (λ x. added n x) e) (not_beyond n),
    λ h. refl,
    refl,
  )

  pub chosen_true : (n p q h : ℕ) (w : Work) → InHand rule lists table.ops table.depth (Condition n p q h)
      (Truth true) w →
      Reduces rule r lists lists free free table (reduced.Body p h) w
  chosen_true n p q h w t =
      let o = t.open_for in
      let rest = t.rest in
      let u = plugged rest (met o.0 o.2) in
      let e : move w ≡ plain u = moved rule lists table.ops table.depth (Condition n p q h) (Truth true) w t
      (condition n o.0 o.1 o.2) (plain.truth true) (plain (met o.0 o.2))
      o.3 (is_truth rule lists true t.value t.stands) refl (not_plain _) in (
        u,
        subst (λ m. Moved rule r lists lists free free m u) (sym e) (refl, λ k. refl, refl),
        record {
          opens = rest;
          term = o.0;
          env = o.2;
          stacked = t.stacked;
          at = o.4;
          environment = o.6;
          whole = refl;
        },
      )

  pub chosen_false : (n p q h : ℕ) (w : Work) → InHand rule lists table.ops table.depth (Condition n p q h)
      (Truth false) w →
      Reduces rule r lists lists free free table (reduced.Body q h) w
  chosen_false n p q h w t =
      let o = t.open_for in
      let rest = t.rest in
      let u = plugged rest (met o.1 o.2) in
      let e : move w ≡ plain u = moved rule lists table.ops table.depth (Condition n p q h) (Truth false) w t
      (condition n o.0 o.1 o.2) (plain.truth false) (plain (met o.1 o.2))
      o.3 (is_truth rule lists false t.value t.stands) refl (not_plain _) in (
        u,
        subst (λ m. Moved rule r lists lists free free m u) (sym e) (refl, λ k. refl, refl),
        record {
          opens = rest;
          term = o.1;
          env = o.2;
          stacked = t.stacked;
          at = o.5;
          environment = o.6;
          whole = refl;
        },
      )
