-- Which sum was told.
use Rattle.std.proofs.Common.{◌≡◌, ℕ, ℤ, Ok, Err, refl, ap, arith}
use Rattle.calculus.specs.Range.{Sum, within, out_of_range}
use Rattle.arithmetic.specs.declared.OutOfRange.{OutOfRange}
use Rattle.arithmetic.specs.Sums.{as_result}

pub told_within : (s : Sum) (k : ℤ) → Ok k ≡ as_result s → s ≡ within k
told_within (within j) k e = let f : j ≡ k = cc in ap within f
told_within out_of_range k e = let z : ◌≡◌ {A = ℕ} 0 1 = cc in absurd (omega arith)

pub told_out : (s : Sum) (beyond : OutOfRange) → Err beyond ≡ as_result s → s ≡ out_of_range
told_out (within k) beyond e = let z : ◌≡◌ {A = ℕ} 0 1 = cc in absurd (omega arith)
told_out out_of_range beyond e = refl
