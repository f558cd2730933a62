-- A spelling tells the types of a rule, and no more.
use mathlib.Core.Bool.{Bool, true, false, cond}
use mathlib.Core.List.{List, [], ◌∷◌, ◌++◌, append_assoc, append-nil}
use mathlib.Core.Option.{some}
use mathlib.Core.Path.{◌≡◌, refl, sym, ◌∙◌, ap, subst}
use borrow.Author.Tests.{eqb-true, eqb-false, eq-eqb, ne_eqb}
use lib.Dec.{eqb}
use lib.ListN.{replicate}
use native.Mathlib.Omega.{arith}
use Prim.Native.Nat.{ℕ, zero, suc, ◌+◌}
use Rattle.syntax.specs.Tree.{Tree}
use Rattle.calculus.specs.Term.{Term, number, truth, variable, function, application, let_in, sum, at_most, if_else}
use Rattle.calculus.specs.Term.{numbered}
use Rattle.calculus.specs.Types.{Ty, int, bool, ◌⇒◌, unknown, at, Has, RuleHas}
use Rattle.calculus.specs.General.{put_types, ComesFrom, MostGeneral, place, note, noted, renumbered, written, spelling}
use Rattle.calculus.specs.Laws.{SpellingTells}

-- putting types for unknowns keeps a rule's types

abbrev pub put_all : (ℕ → Ty) → List Ty → List Ty
put_all θ [] = []
put_all θ (p ∷ Γ) = put_types θ p ∷ put_all θ Γ

pub at_put_all : (θ : ℕ → Ty) (Γ : List Ty) (d : ℕ) (τ : Ty) → at Γ d ≡ some τ
    → at (put_all θ Γ) d ≡ some (put_types θ τ)
at_put_all θ [] d τ e = let z : ◌≡◌ {A = ℕ} 0 1 = cc in absurd (omega arith)
at_put_all θ (p ∷ Γ) zero τ e = let q : p ≡ τ = cc in ap (λ x. some (put_types θ x)) q
at_put_all θ (p ∷ Γ) (suc d) τ e = at_put_all θ Γ d τ e

has_put_types : (θ : ℕ → Ty) (Γ : List Ty) (t : Term) (τ : Ty) → Has Γ t τ → Has (put_all θ Γ) t (put_types θ τ)
has_put_types θ Γ (number k) τ h = ap (λ x. put_types θ x) h
has_put_types θ Γ (truth b) τ h = ap (λ x. put_types θ x) h
has_put_types θ Γ (variable d) τ h = at_put_all θ Γ d τ h
has_put_types θ Γ (function n b) τ (p, s, e, h) =
    (put_types θ p, put_types θ s, ap (λ x. put_types θ x) e, has_put_types θ (p ∷ Γ) b s h)
has_put_types θ Γ (application n f a) τ (p, h, i) = (
  put_types θ p,
  has_put_types θ Γ f (p ⇒ τ) h,
  has_put_types θ Γ a p i,
)
has_put_types θ Γ (let_in n e b) τ (p, h, i) = (put_types θ p, has_put_types θ Γ e p h, has_put_types θ (p ∷ Γ) b τ i)
has_put_types θ Γ (sum n l r) τ (e, h, i) = (
  ap (λ x. put_types θ x) e,
  has_put_types θ Γ l int h,
  has_put_types θ Γ r int i,
)
has_put_types θ Γ (at_most n l r) τ (e, h, i) = (
  ap (λ x. put_types θ x) e,
  has_put_types θ Γ l int h,
  has_put_types θ Γ r int i,
)
has_put_types θ Γ (if_else n c t e) τ (h, i, j) = (
  has_put_types θ Γ c bool h,
  has_put_types θ Γ t τ i,
  has_put_types θ Γ e τ j,
)

pub put_all_readings : (θ : ℕ → Ty) (r : ℕ) → put_all θ (replicate r int) ≡ replicate r int
put_all_readings θ zero = refl
put_all_readings θ (suc r) = ap (λ Γ. int ∷ Γ) (put_all_readings θ r)

pub rule_has_put_types : (r : ℕ) (t : Tree) (τ : Ty) (θ : ℕ → Ty) → RuleHas r t τ → RuleHas r t (put_types θ τ)
rule_has_put_types r t τ θ h =
    subst (λ Γ. Has Γ (numbered 0 t) (put_types θ τ)) (put_all_readings θ r) (has_put_types θ (replicate r int)
    (numbered 0 t) τ h)

what_comes : (r : ℕ) (t : Tree) (τ σ : Ty) → RuleHas r t τ → ComesFrom τ σ → RuleHas r t σ
what_comes r t τ σ h (θ, e) = subst (λ x. RuleHas r t x) e (rule_has_put_types r t τ θ h)

pub put_types_twice : (θ φ : ℕ → Ty) (τ : Ty) → put_types φ (put_types θ τ) ≡ put_types (λ k. put_types φ (θ k)) τ
put_types_twice θ φ int = refl
put_types_twice θ φ bool = refl
put_types_twice θ φ (p ⇒ s) = let e = put_types_twice θ φ p in let f = put_types_twice θ φ s in cc
put_types_twice θ φ (unknown k) = refl

comes_twice : (μ ν σ : Ty) → ComesFrom μ ν → ComesFrom ν σ → ComesFrom μ σ
comes_twice μ ν σ (θ, e) (φ, f) = (
  (λ k. put_types φ (θ k)),
  sym (put_types_twice θ φ μ) ∙ ap (λ x. put_types φ x) e
      ∙ f,
)

-- a renumbered type comes from its type, and its type from it

abbrev named : List ℕ → ℕ → Ty
named [] k = int
named (j ∷ seen) zero = unknown j
named (j ∷ seen) (suc k) = named seen k

-- an unknown keeps its place once it is noted, and stands there

abbrev Placed : ℕ → List ℕ → List ℕ → Type 0
Placed k seen more = (place k (note k seen ++ more) ≡ place k seen)
    × (named (note k seen ++ more) (place k seen) ≡ unknown k)

placed_behind : (k j : ℕ) (seen more : List ℕ) (b : Bool) → eqb k j ≡ b → Placed k seen more →
    (place k (j ∷ (cond b seen (note k seen) ++ more)) ≡ cond b 0 (suc (place k seen))) ×
    (named (j ∷ (cond b seen (note k seen) ++ more)) (cond b 0 (suc (place k seen))) ≡ unknown k)
placed_behind k j seen more true e h = (
  ap (λ x. cond x 0 (suc (place k (seen ++ more)))) e,
  ap unknown (sym (eqb-true k j e)),
)
placed_behind k j seen more false e h = (ap (λ x. cond x 0 (suc (place k (note k seen ++ more)))) e ∙ ap suc h.0, h.1)

placed : (k : ℕ) (seen more : List ℕ) → Placed k seen more
placed k [] more = (ap (λ b. cond b 0 (suc (place k more))) (eq-eqb k k refl), refl)
placed k (j ∷ seen) more = placed_behind k j seen more (eqb k j) refl (placed k seen more)

-- noting only adds behind

abbrev Added : List ℕ → List ℕ → Type 0
Added seen longer = (more : List ℕ) × (longer ≡ seen ++ more)

note_adds : (k : ℕ) (seen : List ℕ) → Added seen (note k seen)
note_adds k [] = (k ∷ [], refl)
note_adds k (j ∷ seen) = by_test (eqb k j) (note_adds k seen)
  where
    by_test : (b : Bool) → Added seen (note k seen) → Added (j ∷ seen) (j ∷ cond b seen (note k seen))
    by_test true h = ([], ap (λ x. j ∷ x) (sym (append-nil seen)))
    by_test false h = (h.0, ap (λ x. j ∷ x) h.1)

noted_adds : (seen : List ℕ) (τ : Ty) → Added seen (noted seen τ)
noted_adds seen int = ([], sym (append-nil seen))
noted_adds seen bool = ([], sym (append-nil seen))
noted_adds seen (p ⇒ s) =
    let h = noted_adds seen p in
    let i = noted_adds (noted seen p) s in
    (h.0 ++ i.0, i.1 ∙ ap (λ x. x ++ i.0) h.1 ∙ append_assoc seen h.0 i.0)
noted_adds seen (unknown k) = note_adds k seen

abbrev Renamed : List ℕ → List ℕ → Ty → Type 0
Renamed full seen τ =
    (put_types (λ k. unknown (place k full)) τ ≡ renumbered seen τ) × (put_types (named full) (renumbered seen τ) ≡ τ)

renamed : (τ : Ty) (seen more : List ℕ) → Renamed (noted seen τ ++ more) seen τ
renamed int seen more = (refl, refl)
renamed bool seen more = (refl, refl)
renamed (p ⇒ s) seen more =
    let i = noted_adds (noted seen p) s in
    let full : noted seen p ++ (i.0 ++ more) ≡ noted (noted seen p) s ++ more =
    sym (append_assoc (noted seen p) i.0 more) ∙ sym (ap (λ x. x ++ more) i.1) in
    let left = subst (λ x. Renamed x seen p) full (renamed p seen (i.0 ++ more)) in
    let right = renamed s (noted seen p) more in
    let e₀ = left.0 in
    let e₁ = left.1 in
    let f₀ = right.0 in
    let f₁ = right.1 in
    (cc, cc)
renamed (unknown k) seen more = let h = placed k seen more in (ap unknown h.0, h.1)

renumbered_comes : (τ : Ty) → ComesFrom τ (renumbered [] τ)
renumbered_comes τ = ((λ k. unknown (place k (noted [] τ ++ []))), (renamed τ [] []).0)

comes_renumbered : (τ : Ty) → ComesFrom (renumbered [] τ) τ
comes_renumbered τ = (named (noted [] τ ++ []), (renamed τ [] []).1)

-- what is written is read in one way only

written-++ : (p q : Ty) (xs ys : List ℕ) → written p ++ xs ≡ written q ++ ys → (p ≡ q) × (xs ≡ ys)
written-++ int int xs ys e = (refl, cc)
written-++ int bool xs ys e = let z : ◌≡◌ {A = ℕ} 0 1 = cc in absurd (omega arith)
written-++ int (q ⇒ u) xs ys e = let z : ◌≡◌ {A = ℕ} 0 2 = cc in absurd (omega arith)
written-++ int (unknown k) xs ys e = let z : 0 ≡ 3 + k = cc in absurd (omega arith)
written-++ bool int xs ys e = let z : ◌≡◌ {A = ℕ} 1 0 = cc in absurd (omega arith)
written-++ bool bool xs ys e = (refl, cc)
written-++ bool (q ⇒ u) xs ys e = let z : ◌≡◌ {A = ℕ} 1 2 = cc in absurd (omega arith)
written-++ bool (unknown k) xs ys e = let z : 1 ≡ 3 + k = cc in absurd (omega arith)
written-++ (p ⇒ s) int xs ys e = let z : ◌≡◌ {A = ℕ} 2 0 = cc in absurd (omega arith)
written-++ (p ⇒ s) bool xs ys e = let z : ◌≡◌ {A = ℕ} 2 1 = cc in absurd (omega arith)
written-++ (p ⇒ s) (q ⇒ u) xs ys e =
    let tails : (written p ++ written s) ++ xs ≡ (written q ++ written u) ++ ys = cc in
    let h = written-++ p q (written s ++ xs) (written u ++ ys) (sym (append_assoc (written p) (written s) xs) ∙ tails
    ∙ append_assoc (written q) (written u) ys) in
    let i = written-++ s u xs ys h.1 in
    let e₀ = h.0 in
    let e₁ = i.0 in
    (cc, i.1)
written-++ (p ⇒ s) (unknown k) xs ys e = let z : 2 ≡ 3 + k = cc in absurd (omega arith)
written-++ (unknown j) int xs ys e = let z : 3 + j ≡ 0 = cc in absurd (omega arith)
written-++ (unknown j) bool xs ys e = let z : 3 + j ≡ 1 = cc in absurd (omega arith)
written-++ (unknown j) (q ⇒ u) xs ys e = let z : 3 + j ≡ 2 = cc in absurd (omega arith)
written-++ (unknown j) (unknown k) xs ys e =
    let z : 3 + j ≡ 3 + k = cc in
    let same : j ≡ k = omega arith in
    (ap unknown same, cc)

pub written_injective : (p q : Ty) → written p ≡ written q → p ≡ q
written_injective p q e = (written-++ p q [] [] (ap (λ x. x ++ []) e)).0

-- types that come from one another are renumbered alike

module _ (θ φ : ℕ → Ty) where
  abbrev Matched : ℕ → ℕ → Type 0
  Matched k j = (θ k ≡ unknown j) × (φ j ≡ unknown k)

  abbrev AllMatched : List ℕ → List ℕ → Type 0
  AllMatched [] [] = Unit {0}
  AllMatched [] (j ∷ js) = ⊥
  AllMatched (k ∷ ks) [] = ⊥
  AllMatched (k ∷ ks) (j ∷ js) = Matched k j × AllMatched ks js

  same_test : (k j l m : ℕ) → Matched k j → Matched l m → eqb k l ≡ eqb j m
  same_test k j l m g h = by_test (eqb k l) refl
    where
      by_test : (b : Bool) → eqb k l ≡ b → eqb k l ≡ eqb j m
      by_test true e =
          let q : k ≡ l = eqb-true k l e in
          let g₀ = g.0 in
          let h₀ = h.0 in
          let s : j ≡ m = cc in
          e ∙ sym (eq-eqb j m s)
      by_test false e =
          e ∙ sym (ne_eqb j m (λ s. eqb-false k l e (let g₁ = g.1 in let h₁ = h.1 in cc)))

  abbrev Alike : ℕ → ℕ → List ℕ → List ℕ → Type 0
  Alike k j ks js = (place k ks ≡ place j js) × AllMatched (note k ks) (note j js)

  alike : (k j : ℕ) (ks js : List ℕ) → Matched k j → AllMatched ks js → Alike k j ks js
  alike k j [] [] g h = (refl, (g, tt))
  alike k j [] (m ∷ js) g h = absurd h
  alike k j (l ∷ ks) [] g h = absurd h
  alike k j (l ∷ ks) (m ∷ js) g h =
      subst (λ c. (cond (eqb k l) 0 (suc (place k ks)) ≡ cond c 0 (suc (place j js)))
      × AllMatched (l ∷ cond (eqb k l) ks (note k ks)) (m ∷ cond c js (note j js)))
      (same_test k j l m g h.0)
      (by_test (eqb k l) (alike k j ks js g h.1))
    where
      by_test : (b : Bool) → Alike k j ks js →
          (cond b 0 (suc (place k ks)) ≡ cond b 0 (suc (place j js))) × AllMatched (l ∷ cond b ks (note k ks))
          (m ∷ cond b js (note j js))
      by_test true i = (refl, h)
      by_test false i = (ap suc i.0, (h.0, i.1))

  abbrev RenumberedAlike : List ℕ → List ℕ → Ty → Ty → Type 0
  RenumberedAlike ks js ν μ = (renumbered ks ν ≡ renumbered js μ) × AllMatched (noted ks ν) (noted js μ)

  unknown_alike : (k : ℕ) (x : Ty) (ks js : List ℕ) → θ k ≡ x → put_types φ x ≡ unknown k → AllMatched ks js
      → RenumberedAlike ks js (unknown k) x
  unknown_alike k int ks js e f h = let z : ◌≡◌ {A = ℕ} 0 1 = cc in absurd (omega arith)
  unknown_alike k bool ks js e f h = let z : ◌≡◌ {A = ℕ} 0 1 = cc in absurd (omega arith)
  unknown_alike k (p ⇒ s) ks js e f h = let z : ◌≡◌ {A = ℕ} 0 1 = cc in absurd (omega arith)
  unknown_alike k (unknown j) ks js e f h = let a = alike k j ks js (e, f) h in (ap unknown a.0, a.1)

  renumbered_alike : (ν : Ty) (ks js : List ℕ) → put_types φ (put_types θ ν) ≡ ν → AllMatched ks js
      → RenumberedAlike ks js ν (put_types θ ν)
  renumbered_alike int ks js e h = (refl, h)
  renumbered_alike bool ks js e h = (refl, h)
  renumbered_alike (p ⇒ s) ks js e h =
      let left = renumbered_alike p ks js (cc) h in
      let right = renumbered_alike s (noted ks p) (noted js (put_types θ p)) (cc) left.1 in
      let e₀ = left.0 in
      let e₁ = right.0 in
      (cc, right.1)
  renumbered_alike (unknown k) ks js e h = unknown_alike k (θ k) ks js refl e h

-- the law

comes_across : (μ ν σ : Ty) → spelling μ ≡ spelling ν → ComesFrom μ σ → ComesFrom ν σ
comes_across μ ν σ e c =
    let same : renumbered [] μ ≡ renumbered [] ν = written_injective (renumbered [] μ) (renumbered [] ν) e in
    let back = subst (λ x. ComesFrom x μ) same (comes_renumbered μ) in
    comes_twice ν (renumbered [] ν) σ (renumbered_comes ν) (comes_twice (renumbered [] ν) μ σ back c)

spelled_alike : (μ ν : Ty) → ComesFrom ν μ → ComesFrom μ ν → spelling μ ≡ spelling ν
spelled_alike μ ν (θ, e) (φ, f) =
    let a = renumbered_alike θ φ ν [] [] (ap (λ x. put_types φ x) e ∙ f) tt in
    ap (λ x. spelling x) (sym e) ∙ sym (ap (λ x. written x) a.0)

same_types : (r q : ℕ) (t u : Tree) (μ ν : Ty) → MostGeneral r t μ → MostGeneral q u ν → spelling μ ≡ spelling ν
    → (σ : Ty) → RuleHas r t σ → RuleHas q u σ
same_types r q t u μ ν m n e σ h = what_comes q u ν σ n.is_type (comes_across μ ν σ e (m.every_type σ h))

pub spelling_tells : SpellingTells
spelling_tells =
    record {
      what_comes = what_comes;
      spelled_alike = λ r q t u μ ν m n. (
        (λ e σ. (same_types r q t u μ ν m n e σ, same_types q r u t ν μ n m (sym e) σ)),
        (λ s. spelled_alike μ ν (n.every_type μ ((s μ).0 m.is_type)) (m.every_type ν ((s ν).1 n.is_type))),
      );
    }
