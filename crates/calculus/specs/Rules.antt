-- The reductions as rules.
use Rattle.std.specs.Prelude.{true, false, ◌≡◌, ℤ, ℕ}
use Rattle.std.specs.Int.Signed.{le_z}
use Rattle.calculus.specs.Term.{Term, number, truth, function, application, let_in, sum, at_most, if_else}
use Rattle.calculus.specs.Values.{is_value}
use Rattle.calculus.specs.Substitution.{put_one}
use Rattle.calculus.specs.Range.{within, out_of_range, sum_of}

infix 3 ◌⟶◌
-- One reduction. A rule that works on a left child asks for a value on the right.
pub data ◌⟶◌ : Term → Term → Type 0 where
  --   (fun x -> b) v ⟶ b[v/x]
  apply_function : {n m : ℕ} {b v : Term} → is_value v ≡ true → application n (function m b) v ⟶ put_one v b
  --   a ⟶ a'  gives  f a ⟶ f a'
  argument : {n : ℕ} {f a a' : Term} → a ⟶ a' → application n f a ⟶ application n f a'
  --   f ⟶ f'  gives  f v ⟶ f' v
  applied : {n : ℕ} {f f' v : Term} → is_value v ≡ true → f ⟶ f' → application n f v ⟶ application n f' v
  --   let x = v in b ⟶ b[v/x]
  let_value : {n : ℕ} {v b : Term} → is_value v ≡ true → let_in n v b ⟶ put_one v b
  --   e ⟶ e'  gives  let x = e in b ⟶ let x = e' in b
  bound : {n : ℕ} {e e' b : Term} → e ⟶ e' → let_in n e b ⟶ let_in n e' b
  --   i + j ⟶ k  with k their sum, within the range
  sum_numbers : {n : ℕ} {i j k : ℤ} → sum_of i j ≡ within k → sum n (number i) (number j) ⟶ number k
  --   r ⟶ r'  gives  l + r ⟶ l + r'
  sum_right : {n : ℕ} {l r r' : Term} → r ⟶ r' → sum n l r ⟶ sum n l r'
  --   l ⟶ l'  gives  l + v ⟶ l' + v
  sum_left : {n : ℕ} {l l' v : Term} → is_value v ≡ true → l ⟶ l' → sum n l v ⟶ sum n l' v
  --   i <= j ⟶ true or false
  compare_numbers : {n : ℕ} {i j : ℤ} → at_most n (number i) (number j) ⟶ truth (le_z i j)
  --   r ⟶ r'  gives  l <= r ⟶ l <= r'
  compare_right : {n : ℕ} {l r r' : Term} → r ⟶ r' → at_most n l r ⟶ at_most n l r'
  --   l ⟶ l'  gives  l <= v ⟶ l' <= v
  compare_left : {n : ℕ} {l l' v : Term} → is_value v ≡ true → l ⟶ l' → at_most n l v ⟶ at_most n l' v
  --   if true then t else e ⟶ t      if false then t else e ⟶ e
  if_true : {n : ℕ} {t e : Term} → if_else n (truth true) t e ⟶ t
  if_false : {n : ℕ} {t e : Term} → if_else n (truth false) t e ⟶ e
  --   c ⟶ c'  gives  if c then t else e ⟶ if c' then t else e
  condition : {n : ℕ} {c c' t e : Term} → c ⟶ c' → if_else n c t e ⟶ if_else n c' t e

-- The sum at node n is next, and it leaves the number range: found by the same order as the next reduction.
pub data Leaves : Term → ℕ → Type 0 where
  --   i + j  with their sum out of range
  sum_out : {n : ℕ} {i j : ℤ} → sum_of i j ≡ out_of_range → Leaves (sum n (number i) (number j)) n
  --   in a of f a, in f of f v, in e of let x = e in b
  in_argument : {n m : ℕ} {f a : Term} → Leaves a m → Leaves (application n f a) m
  in_applied : {n m : ℕ} {f v : Term} → is_value v ≡ true → Leaves f m → Leaves (application n f v) m
  in_bound : {n m : ℕ} {e b : Term} → Leaves e m → Leaves (let_in n e b) m
  --   in r of l + r, in l of l + v, in r of l <= r, in l of l <= v
  in_sum_right : {n m : ℕ} {l r : Term} → Leaves r m → Leaves (sum n l r) m
  in_sum_left : {n m : ℕ} {l v : Term} → is_value v ≡ true → Leaves l m → Leaves (sum n l v) m
  in_compare_right : {n m : ℕ} {l r : Term} → Leaves r m → Leaves (at_most n l r) m
  in_compare_left : {n m : ℕ} {l v : Term} → is_value v ≡ true → Leaves l m → Leaves (at_most n l v) m
  --   in c of if c then t else e
  in_condition : {n m : ℕ} {c t e : Term} → Leaves c m → Leaves (if_else n c t e) m
