-- The three number ranges are one.
use Rattle.std.proofs.Common.{◌≡◌, ◌<◌, true, ℤ, pos, negsuc, FitsSigned, w32, ◌∙◌, sym, arith}
use Rattle.std.proofs.lemmas.Bool.Decides.{nat_tests}
use Rattle.grammar.specs.Spelling as text
use Rattle.calculus.specs.Range as stage
use Rattle.sending.specs.Ranges.{OneRange}

texts_as_stages : (k : ℤ) → text.in_range k ≡ stage.in_range k
texts_as_stages (pos n) = grind (arith, nat_tests)
texts_as_stages (negsuc n) = grind (arith, nat_tests)

pub text_fits : (k : ℤ) → text.in_range k ≡ true → FitsSigned w32 k
text_fits (pos n) h = record { sfits = grind (arith, nat_tests) }
text_fits (negsuc n) h = record { sfits = grind (arith, nat_tests) }

fits_text : (k : ℤ) → FitsSigned w32 k → text.in_range k ≡ true
fits_text (pos n) h = let small : n < 2147483648 = h.sfits in grind (arith, nat_tests)
fits_text (negsuc n) h = let small : n < 2147483648 = h.sfits in grind (arith, nat_tests)

pub one_range : OneRange
one_range = record {
  texts_as_stages = texts_as_stages;
  records_as_stages = λ k. (λ h. sym (texts_as_stages k) ∙ fits_text k h, λ h. text_fits k (texts_as_stages k ∙ h));
}
