-- A byte string is the record of one tree, or gets one refusal.
use Rattle.std.proofs.Common.{◌≡◌, ℕ, ◌+◌, ◌*◌, ◌/◌, ◌%◌, ◌<◌, ◌≤◌, true, false, List, [], ◌∷◌, ◌++◌, length, get_or}
use Rattle.std.proofs.Common.{drop, sym, refl, ap, ◌∙◌, inl, inr, append-nil, arith, length-append}
use mathlib.Core.Option.{Option, some, none}
use Rattle.std.proofs.lemmas.Bool.Decides.{nat_tests}
use Rattle.syntax.specs.Tree.{Tree, number, truth, variable, function, application, let_in, sum, at_most, if_else}
use Rattle.syntax.specs.Tree.{nodes}
use Rattle.syntax.specs.Record.{encode, record_of}
use Rattle.record.specs.Bytes.{Stands, two_at}
use Rattle.record.specs.Laws.{OneReading}
use Rattle.record.specs.Proper.{Sendable}
use Rattle.record.specs.Questions.{front, Refused, here, later, spare, Refusal}
use Rattle.record.proofs.Decoding.{decode, decode_encode}
use Rattle.record.proofs.Standing.{stands_behind}
use Rattle.record.proofs.Walking.{over, some_none}

-- ── one refusal ──

same_pair : (o : Option (ℕ × ℕ)) (k k' q q' : ℕ) → o ≡ some (k, q) → o ≡ some (k', q') → (k ≡ k') × (q ≡ q')
same_pair o k k' q q' a b =
    let x : ℕ × ℕ = (k, q) in
    let y : ℕ × ℕ = (k', q') in
    let e : x ≡ y = same x y a b in
    (ap (λ (z : ℕ × ℕ). z.0) e, ap (λ (z : ℕ × ℕ). z.1) e)
  where
    same : (x y : ℕ × ℕ) → o ≡ some x → o ≡ some y → x ≡ y
    same x y a b = cc

same_refused : (s : List ℕ) (l : List ℕ) (n p k k' q q' : ℕ) → Refused s l n p k q → Refused s l n p k' q' → (k ≡ k')
    × (q ≡ q')
same_refused s l n p k k' q q' (here a) (here b) = same_pair _ k k' q q' a b
same_refused s l n p k k' q q' (here a) (later b r) = absurd (some_none a b)
same_refused s l n p k k' q q' (later a r) (here b) = absurd (some_none b a)
same_refused s l n p k k' q q' (later a r) (later b r') = same_refused s _ _ _ k k' q q' r r'
same_refused s l n p k k' q q' (spare a) (spare b) = (refl, refl)

one_refusal : (s : List ℕ) (k k' q q' : ℕ) → Refusal s k q → Refusal s k' q' → (k ≡ k') × (q ≡ q')
one_refusal s k k' q q' (inl a) (inl b) = same_pair (front s) k k' q q' a b
one_refusal s k k' q q' (inl a) (inr b) = absurd (some_none a b.0)
one_refusal s k k' q q' (inr a) (inl b) = absurd (some_none b a.0)
one_refusal s k k' q q' (inr a) (inr b) = same_refused s _ _ _ k k' q q' a.1 b.1

-- ── the record of a tree ──

short : (t : Tree) → length (encode t) ≤ 5 * nodes t
short (number k) = omega arith
short (truth false) = omega arith
short (truth true) = omega arith
short (variable d) = omega arith
short (function t) = omega (arith, short t)
short (application t u) = omega (arith, short t, short u, length-append (encode t) (encode u))
short (let_in t u) = omega (arith, short t, short u, length-append (encode t) (encode u))
short (sum t u) = omega (arith, short t, short u, length-append (encode t) (encode u))
short (at_most t u) = omega (arith, short t, short u, length-append (encode t) (encode u))
short (if_else t u v) = omega (
  arith,
  short t,
  short u,
  short v,
  length-append (encode t) (encode u ++ encode v),
  length-append (encode u) (encode v),
)

front_passes : (s : List ℕ) → 4 ≤ length s → 2 + two_at s 0 ≡ length s → get_or s 2 0 ≡ 1 → get_or s 3 0 ≤ 8
    → front s ≡ none
front_passes s long count version few = grind (arith, nat_tests)

no_more : (s : List ℕ) (n p k q : ℕ) → Refused s [] n p k q → p < length s
no_more s n p k q (spare l) = l

never_refused : (r : ℕ) (t : Tree) (k q : ℕ) → Sendable r t → ¬ Refusal (record_of r t) k q
never_refused r t k q ok (inl a) =
    let s = record_of r t in
    let n = short t in
    let few = ok.few in
    let count : (2 + length (encode t)) / 256 % 256 * 256 + (2 + length (encode t)) % 256 ≡ 2 + length (encode t) =
    omega arith in
    some_none a (front_passes s (omega arith) (omega (arith, count)) refl ok.over)
never_refused r t k q ok (inr a) =
    let s = record_of r t in
    let few = ok.few in
    let small = ok.over in
    let bytes : Stands s 4 (encode t) = stands_behind (((2 + length (encode t)) / 256 % 256) ∷
    ((2 + length (encode t)) % 256) ∷ 1 ∷ r ∷ []) (encode t) in
    let past = no_more s _ _ k q ((over t s r 0 4 (omega arith) (omega arith) bytes ok.proper k q []).0 a.1) in
    omega arith

one_tree : (r q : ℕ) (t u : Tree) → Sendable r t → Sendable q u → record_of r t ≡ record_of q u → (r ≡ q) × (t ≡ u)
one_tree r q t u ok ok' e =
    let few = ok.few in
    let few' = ok'.few in
    let small = ok.over in
    let small' = ok'.over in
    let codes : encode t ++ [] ≡ encode u ++ [] = append-nil (encode t) ∙ ap (drop 4) e ∙ sym (append-nil (encode u)) in
    let x : Tree × List ℕ = (t, []) in
    let y : Tree × List ℕ = (u, []) in
    let same : x ≡ y = only x y (sym (decode_encode t 512 r [] few (omega arith) ok.proper) ∙ ap (decode 512) codes
    ∙ decode_encode u 512 q [] few' (omega arith) ok'.proper) in
    (ap (λ l. get_or l 3 0) e, ap (λ (z : Tree × List ℕ). z.0) same)
  where
    only : (x y : Tree × List ℕ) → some x ≡ some y → x ≡ y
    only x y e = cc

pub one_reading : OneReading
one_reading = record { never_refused = never_refused; one_tree = one_tree; one_refusal = one_refusal }
