-- A step is what the rules say.
use mathlib.Core.Bool.{true, false}
use mathlib.Core.Option.{Option, none, some}
use mathlib.Core.Path.{◌≡◌, refl, sym, ◌∙◌, ap, subst}
use lib.IntN.{ℤ}
use native.Mathlib.Omega.{arith}
use Prim.Native.Nat.{ℕ}
use Rattle.calculus.specs.Term.{Term, number, truth, variable, function, application, let_in, sum, at_most, if_else}
use Rattle.calculus.specs.Values.{is_value}
use Rattle.calculus.specs.Substitution.{put_one}
use Rattle.calculus.specs.Step.{Next, rests, beyond, stuck, to, first, right_left, step, apply, added, add, compare}
use Rattle.calculus.specs.Step.{choose}
use Rattle.calculus.specs.Length.{ends}
use Rattle.calculus.specs.Stuck.{IsStuck}
use Rattle.calculus.specs.Range.{Sum, within, out_of_range, sum_of}
use Rattle.calculus.specs.Values.{number_of, truth_of, body_of}
use Rattle.calculus.specs.Rules.{◌⟶◌, apply_function, argument, applied, let_value, bound, sum_numbers, sum_right}
use Rattle.calculus.specs.Rules.{sum_left, compare_numbers, compare_right, compare_left, if_true, if_false, condition}
use Rattle.calculus.specs.Rules.{Leaves, sum_out, in_argument, in_applied, in_bound, in_sum_right, in_sum_left}
use Rattle.calculus.specs.Rules.{in_compare_right, in_compare_left, in_condition}
use Rattle.calculus.specs.Laws.{Determined}

false≢true : {A : Type 0} → false ≡ true → A
false≢true e = let z : ◌≡◌ {A = ℕ} 0 1 = cc in absurd (omega arith)

-- values rest

pub value_rests : (v : Term) → is_value v ≡ true → step v ≡ rests
value_rests (number k) e = refl
value_rests (truth b) e = refl
value_rests (variable d) e = false≢true e
value_rests (function n b) e = refl
value_rests (application n f a) e = false≢true e
value_rests (let_in n e b) h = false≢true h
value_rests (sum n l r) e = false≢true e
value_rests (at_most n l r) e = false≢true e
value_rests (if_else n c t e) h = false≢true h

-- what the rules say, step does

pub rule_step : {t u : Term} → t ⟶ u → step t ≡ to u
rule_step (apply_function {n} {m} {b} {v} e) =
    ap (λ x. right_left (application n) (function m b) v rests x (to (put_one v b))) (value_rests v e)
rule_step (argument {n} {f} {a} r) = ap (λ x. right_left (application n) f a (step f) x (apply (body_of f) a))
    (rule_step r)
rule_step (applied {n} {f} {f'} {v} e r) =
    let p = value_rests v e in
    let q = rule_step r in
    ap (λ x. right_left (application n) f v (step f) x (apply (body_of f) v)) p
    ∙ ap (λ x. first x (λ y. application n y v) (apply (body_of f) v)) q
rule_step (let_value {n} {v} {b} e) = ap (λ x. first x (λ y. let_in n y b) (to (put_one v b))) (value_rests v e)
rule_step (bound {n} {e} {e'} {b} r) = ap (λ x. first x (λ y. let_in n y b) (to (put_one e b))) (rule_step r)
rule_step (sum_numbers {n} e) = ap (λ x. added n x) e
rule_step (sum_right {n} {l} {r} s) = ap (λ x. right_left (sum n) l r (step l) x (add n (number_of l) (number_of r)))
    (rule_step s)
rule_step (sum_left {n} {l} {l'} {v} e s) =
    ap (λ x. right_left (sum n) l v (step l) x (add n (number_of l) (number_of v))) (value_rests v e) ∙
    ap (λ x. first x (λ y. sum n y v) (add n (number_of l) (number_of v))) (rule_step s)
rule_step compare_numbers = refl
rule_step (compare_right {n} {l} {r} s) = ap (λ x. right_left (at_most n) l r (step l) x
    (compare (number_of l) (number_of r))) (rule_step s)
rule_step (compare_left {n} {l} {l'} {v} e s) =
    ap (λ x. right_left (at_most n) l v (step l) x (compare (number_of l) (number_of v))) (value_rests v e) ∙
    ap (λ x. first x (λ y. at_most n y v) (compare (number_of l) (number_of v))) (rule_step s)
rule_step if_true = refl
rule_step if_false = refl
rule_step (condition {n} {c} {c'} {t} {e} r) = ap (λ x. first x (λ y. if_else n y t e) (choose (truth_of c) t e))
    (rule_step r)

pub leaves_step : {t : Term} {m : ℕ} → Leaves t m → step t ≡ beyond m
leaves_step (sum_out {n} e) = ap (λ x. added n x) e
leaves_step (in_argument {n} {m} {f} {a} r) = ap (λ x. right_left (application n) f a (step f) x
    (apply (body_of f) a)) (leaves_step r)
leaves_step (in_applied {n} {m} {f} {v} e r) =
    ap (λ x. right_left (application n) f v (step f) x (apply (body_of f) v)) (value_rests v e) ∙
    ap (λ x. first x (λ y. application n y v) (apply (body_of f) v)) (leaves_step r)
leaves_step (in_bound {n} {m} {e} {b} r) = ap (λ x. first x (λ y. let_in n y b) (to (put_one e b))) (leaves_step r)
leaves_step (in_sum_right {n} {m} {l} {r} s) = ap (λ x. right_left (sum n) l r (step l) x
    (add n (number_of l) (number_of r))) (leaves_step s)
leaves_step (in_sum_left {n} {m} {l} {v} e s) =
    ap (λ x. right_left (sum n) l v (step l) x (add n (number_of l) (number_of v))) (value_rests v e) ∙
    ap (λ x. first x (λ y. sum n y v) (add n (number_of l) (number_of v))) (leaves_step s)
leaves_step (in_compare_right {n} {m} {l} {r} s) = ap (λ x. right_left (at_most n) l r (step l) x
    (compare (number_of l) (number_of r))) (leaves_step s)
leaves_step (in_compare_left {n} {m} {l} {v} e s) =
    ap (λ x. right_left (at_most n) l v (step l) x (compare (number_of l) (number_of v))) (value_rests v e) ∙
    ap (λ x. first x (λ y. at_most n y v) (compare (number_of l) (number_of v))) (leaves_step s)
leaves_step (in_condition {n} {m} {c} {t} {e} r) = ap (λ x. first x (λ y. if_else n y t e) (choose (truth_of c) t e))
    (leaves_step r)

-- what step does, the rules say

-- a result that the rules allow for t
abbrev pub Allowed : Term → Next → Type 0
Allowed t rests = is_value t ≡ true
Allowed t (beyond n) = Leaves t n
Allowed t stuck = Unit {0}
Allowed t (to u) = t ⟶ u

first_allowed : (child whole : Term) (around : Term → Term) (next onward : Next) →
    ((u : Term) → child ⟶ u → whole ⟶ around u) → ((n : ℕ) → Leaves child n → Leaves whole n)
    → (is_value child ≡ true → Allowed whole onward) →
    Allowed child next → Allowed whole (first next around onward)
first_allowed child whole around rests onward inner out last h = last h
first_allowed child whole around (beyond n) onward inner out last h = out n h
first_allowed child whole around stuck onward inner out last h = tt
first_allowed child whole around (to u) onward inner out last h = inner u h

apply_allowed : (n : ℕ) (f v : Term) → is_value v ≡ true → Allowed (application n f v) (apply (body_of f) v)
apply_allowed n (number k) v e = tt
apply_allowed n (truth b) v e = tt
apply_allowed n (variable d) v e = tt
apply_allowed n (function m b) v e = apply_function e
apply_allowed n (application m f a) v e = tt
apply_allowed n (let_in m x b) v e = tt
apply_allowed n (sum m l r) v e = tt
apply_allowed n (at_most m l r) v e = tt
apply_allowed n (if_else m c t x) v e = tt

-- a view says which term it is a view of
pub data Number (t : Term) : Option ℤ → Type 0 where
  a_number : (k : ℤ) → t ≡ number k → Number t (some k)
  no_number : Number t none

pub number_view : (t : Term) → Number t (number_of t)
number_view (number k) = a_number k refl
number_view (truth b) = no_number
number_view (variable d) = no_number
number_view (function m b) = no_number
number_view (application m f a) = no_number
number_view (let_in m x b) = no_number
number_view (sum m l r) = no_number
number_view (at_most m l r) = no_number
number_view (if_else m c t x) = no_number

added_allowed : (n : ℕ) (i j : ℤ) (s : Sum) → sum_of i j ≡ s → Allowed (sum n (number i) (number j)) (added n s)
added_allowed n i j (within k) e = sum_numbers e
added_allowed n i j out_of_range e = sum_out e

add_allowed : (n : ℕ) (l r : Term) {x y : Option ℤ} → Number l x → Number r y → Allowed (sum n l r) (add n x y)
add_allowed n l r (a_number i e) (a_number j f) =
    subst (λ w. Allowed (sum n w r) (add n (some i) (some j))) (sym e)
    (subst (λ w. Allowed (sum n (number i) w) (add n (some i) (some j))) (sym f)
    (added_allowed n i j (sum_of i j) refl))
add_allowed n l r (a_number i e) no_number = tt
add_allowed n l r no_number y = tt

compare_allowed : (n : ℕ) (l r : Term) {x y : Option ℤ} → Number l x → Number r y
    → Allowed (at_most n l r) (compare x y)
compare_allowed n l r (a_number i e) (a_number j f) =
    subst (λ w. Allowed (at_most n w r) (compare (some i) (some j))) (sym e)
    (subst (λ w. Allowed (at_most n (number i) w) (compare (some i) (some j))) (sym f) compare_numbers)
compare_allowed n l r (a_number i e) no_number = tt
compare_allowed n l r no_number y = tt

choose_allowed : (n : ℕ) (c t e : Term) → Allowed (if_else n c t e) (choose (truth_of c) t e)
choose_allowed n (number k) t e = tt
choose_allowed n (truth true) t e = if_true
choose_allowed n (truth false) t e = if_false
choose_allowed n (variable d) t e = tt
choose_allowed n (function m b) t e = tt
choose_allowed n (application m f a) t e = tt
choose_allowed n (let_in m x b) t e = tt
choose_allowed n (sum m l r) t e = tt
choose_allowed n (at_most m l r) t e = tt
choose_allowed n (if_else m c s x) t e = tt

pub step_allowed : (t : Term) → Allowed t (step t)
step_allowed (number k) = refl
step_allowed (truth b) = refl
step_allowed (variable d) = tt
step_allowed (function n b) = refl
step_allowed (application n f a) =
    first_allowed a (application n f a) (λ y. application n f y) (step a) (first (step f) (λ y. application n y a)
    (apply (body_of f) a))
    (λ u s. argument s) (λ m s. in_argument s)
    (λ v. first_allowed f (application n f a) (λ y. application n y a) (step f) (apply (body_of f) a)
    (λ u s. applied v s) (λ m s. in_applied v s) (λ w. apply_allowed n f a v) (step_allowed f))
    (step_allowed a)
step_allowed (let_in n e b) =
    first_allowed e (let_in n e b) (λ y. let_in n y b) (step e) (to (put_one e b)) (λ u s. bound s)
    (λ m s. in_bound s) (λ v. let_value v) (step_allowed e)
step_allowed (sum n l r) =
    first_allowed r (sum n l r) (λ y. sum n l y) (step r) (first (step l) (λ y. sum n y r)
    (add n (number_of l) (number_of r)))
    (λ u s. sum_right s) (λ m s. in_sum_right s)
    (λ v. first_allowed l (sum n l r) (λ y. sum n y r) (step l) (add n (number_of l) (number_of r))
    (λ u s. sum_left v s) (λ m s. in_sum_left v s) (λ w. add_allowed n l r (number_view l) (number_view r))
    (step_allowed l))
    (step_allowed r)
step_allowed (at_most n l r) =
    first_allowed r (at_most n l r) (λ y. at_most n l y) (step r) (first (step l) (λ y. at_most n y r)
    (compare (number_of l) (number_of r)))
    (λ u s. compare_right s) (λ m s. in_compare_right s)
    (λ v. first_allowed l (at_most n l r) (λ y. at_most n y r) (step l) (compare (number_of l) (number_of r))
    (λ u s. compare_left v s) (λ m s. in_compare_left v s) (λ w. compare_allowed n l r (number_view l)
    (number_view r)) (step_allowed l))
    (step_allowed r)
step_allowed (if_else n c t e) =
    first_allowed c (if_else n c t e) (λ y. if_else n y t e) (step c) (choose (truth_of c) t e) (λ u s. condition s)
    (λ m s. in_condition s) (λ v. choose_allowed n c t e) (step_allowed c)

pub step_rule : (t u : Term) → step t ≡ to u → t ⟶ u
step_rule t u e = subst (λ x. Allowed t x) e (step_allowed t)

to_injective : (t u v : Term) → step t ≡ to u → step t ≡ to v → u ≡ v
to_injective t u v p q = cc

-- nothing is next exactly where a term is stuck

stuck_by : (t : Term) (next : Next) → step t ≡ next → ends next ≡ false → ((u : Term) → ¬ (t ⟶ u)) → next ≡ stuck
stuck_by t rests e ends_not no_rule = let z : ◌≡◌ {A = ℕ} 0 1 = cc in absurd (omega arith)
stuck_by t (beyond n) e ends_not no_rule = let z : ◌≡◌ {A = ℕ} 0 1 = cc in absurd (omega arith)
stuck_by t stuck e ends_not no_rule = refl
stuck_by t (to u) e ends_not no_rule = absurd (no_rule u (step_rule t u e))

pub stuck_next : (t : Term) → IsStuck t → step t ≡ stuck
stuck_next t s = stuck_by t (step t) refl s.0 s.1

next_stuck : (t : Term) → step t ≡ stuck → IsStuck t
next_stuck t e = (
  ap ends e,
  λ u r. let f : to u ≡ stuck = sym (rule_step r) ∙ e in let z : ◌≡◌ {A = ℕ} 0 1 = cc in
      omega arith,
)

pub determined : Determined
determined =
    record {
      reduces = λ t u. (rule_step, step_rule t u);
      leaves = λ t n. (leaves_step, (λ e. subst (λ x. Allowed t x) e (step_allowed t)));
      at_rest = λ t. (value_rests t, (λ e. subst (λ x. Allowed t x) e (step_allowed t)));
      no_way = λ t. (stuck_next t, next_stuck t);
      one_way = λ t u v p q. to_injective t u v (rule_step p) (rule_step q);
    }
