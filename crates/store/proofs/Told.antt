-- What `Some`, `None`, `Ok` and `Err` tell apart.
use Rattle.std.proofs.Common.{◌≡◌, ℕ, ◌⊎◌, Some, None, Ok, Err, Option, Result, refl, inl, inr, arith}

module _ {X : Type 0} where
  pub some_none : {o : Option X} {x : X} → o ≡ Some x → o ≡ None → ⊥
  some_none p q = let z : ◌≡◌ {A = ℕ} 0 1 = cc in omega arith

  pub some_some : {o : Option X} {x y : X} → o ≡ Some x → o ≡ Some y → x ≡ y
  some_some p q = cc

  pub cases_option : (o : Option X) → (o ≡ None) ⊎ ((x : X) × (o ≡ Some x))
  cases_option None = inl refl
  cases_option (Some x) = inr (x, refl)

pub ok_err : {X Y : Type 0} {r : Result X Y} {x : X} {y : Y} → r ≡ Ok x → r ≡ Err y → ⊥
ok_err p q = let z : ◌≡◌ {A = ℕ} 0 1 = cc in omega arith
