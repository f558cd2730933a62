-- What the node of a variable tells.
use Rattle.std.proofs.Common.{◌≡◌, ℕ, ◌+◌, ◌-◌, ◌<◌, ◌≤◌, ◌⊎◌, inl, inr, sym, ◌∙◌, arith}
use Rattle.std.proofs.lemmas.Bool.{cases_lt}
use Rattle.std.proofs.lemmas.Bool.Decides.{nat_tests}
use Rattle.syntax.specs.declared.node.Node.TheVariants.{Variable, Reading}
use Rattle.record.specs.Nodes.{named}

pub names_binder : (b d : ℕ) → d < b → named b d ≡ Variable d
names_binder b d inner = grind (arith, nat_tests)

pub names_reading : (b d : ℕ) → b ≤ d → named b d ≡ Reading (d - b)
names_reading b d outer = grind (arith, nat_tests)

one_binder : (d e : ℕ) → Variable d ≡ Variable e → d ≡ e
one_binder d e same = cc

one_reading : (j k : ℕ) → Reading j ≡ Reading k → j ≡ k
one_reading j k same = cc

none_both : (d j : ℕ) → Variable d ≡ Reading j → ⊥
none_both d j same = let z : ◌≡◌ {A = ℕ} 0 1 = cc in omega arith

pub binder_named : (b d e : ℕ) → named b d ≡ Variable e → (d ≡ e) × (d < b)
binder_named b d e is = by (cases_lt d b)
  where
    by : (d < b) ⊎ (b ≤ d) → (d ≡ e) × (d < b)
    by (inl inner) = (one_binder d e (sym (names_binder b d inner) ∙ is), inner)
    by (inr outer) = absurd (none_both e (d - b) (sym is ∙ names_reading b d outer))

pub reading_named : (b d j : ℕ) → named b d ≡ Reading j → d ≡ b + j
reading_named b d j is = by (cases_lt d b)
  where
    by : (d < b) ⊎ (b ≤ d) → d ≡ b + j
    by (inl inner) = absurd (none_both d j (sym (names_binder b d inner) ∙ is))
    by (inr outer) = let same : d - b ≡ j = one_reading (d - b) j (sym (names_reading b d outer) ∙ is) in omega arith
