-- A run ends before the first byte of another kind.
use Rattle.std.proofs.Common.{◌≡◌, ℕ, ◌+◌, ◌-◌, ◌<◌, ◌≤◌, true, false, List, length, get_or, drop, Some, None, Option}
use Rattle.std.proofs.Common.{sym, ap, ◌∙◌, subst, arith}
use Rattle.std.specs.List.{AllWithin, HoldsAt}
use Rattle.std.specs.Option.{MatchOption}
use Rattle.std.proofs.lemmas.List.{get_or-drop, length-drop}
use Rattle.lexer.specs.declared.run.Kind.{Kind}
use Rattle.lexer.specs.Runs.{belongs, Run}

abbrev pub Is : Kind → ℕ → Type 0
Is kind c = belongs kind c ≡ true

abbrev pub IsNot : Kind → ℕ → Type 0
IsNot kind c = belongs kind c ≡ false

-- where the first byte of another kind stands among those from a place on
abbrev pub First : Kind → List ℕ → ℕ → Option ℕ → Type 0
First kind s from r = MatchOption r (AllWithin (Is kind) (drop from s) 0 (length (drop from s)))
    (λ i. (i < length (drop from s)) × HoldsAt (IsNot kind) (drop from s) i × AllWithin (Is kind) (drop from s) 0 i)

module _ (kind : Kind) (s : List ℕ) (from : ℕ) (inside : from ≤ length s) where
  behind : (n : ℕ) → AllWithin (Is kind) (drop from s) 0 n → (i : ℕ) → from ≤ i → i < from + n
      → belongs kind (get_or s i 0) ≡ true
  behind n all i low high =
      let at : from + (i - from) ≡ i = omega arith in
      let there = all (i - from) 0 (omega arith) (omega arith) in
      subst (λ c. Is kind c) (get_or-drop from s (i - from) 0 ∙ ap (λ k. get_or s k 0) at) there

  run_stops : (n : ℕ) → First kind s from (Some n) → Run kind s from (from + n)
  run_stops n f =
      let long = length-drop from s in
      record {
        from = omega arith;
        inside = omega (arith, f.0);
        of_kind = behind n f.2;
        stops = λ more. subst (λ c. IsNot kind c) (get_or-drop from s n 0) (f.1 0);
      }

  run_ends : First kind s from None → Run kind s from (length s)
  run_ends f =
      let long = length-drop from s in
      let whole : from + length (drop from s) ≡ length s = omega arith in
      record {
        from = inside;
        inside = omega arith;
        of_kind = λ i low high. behind (length (drop from s)) f i low (subst (λ n. i < n) (sym whole) high);
        stops = λ more. absurd (omega arith);
      }

  pub run_found : (r : Option ℕ) (stop : ℕ) {Past : ℕ → Type 0} → MatchOption r (stop ≡ length s) Past
      → ((n : ℕ) → Past n → stop ≡ from + n) → First kind s from r → Run kind s from stop
  run_found (Some n) stop past is f = subst (Run kind s from) (sym (is n past)) (run_stops n f)
  run_found None stop end is f = subst (Run kind s from) (sym end) (run_ends f)
