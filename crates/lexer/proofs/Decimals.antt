-- What digits come to, up to a limit.
use Rattle.std.proofs.Common.{◌≡◌, ℕ, zero, suc, ◌+◌, ◌-◌, ◌*◌, ◌<◌, ◌≤◌, min, List, [], ◌∷◌, length, get_or, drop}
use Rattle.std.proofs.Common.{fold, ℤ, pos, negsuc, neg_ℤ, Some, None, Option, sym, ap, ◌∙◌, subst, ⊎_elim}
use Rattle.std.proofs.Common.{true≢false, arith}
use Rattle.std.proofs.str.Laws.{order}
use Rattle.std.proofs.lemmas.Bool.Decides.{nat_tests}
use Rattle.grammar.specs.Spelling.{decimal}
use Rattle.lexer.specs.Amounts.{Amount}
use Rattle.lexer.specs.Shown.{value}

-- more before the digits is more in all
pub decimal-≤ : (cs : List ℕ) (m n : ℕ) → m ≤ n → decimal m cs ≤ decimal n cs
decimal-≤ [] m n h = h
decimal-≤ (c ∷ cs) m n h = decimal-≤ cs (10 * m + (c - 48)) (10 * n + (c - 48)) (omega arith)

pub ≤-decimal : (cs : List ℕ) (n : ℕ) → n ≤ decimal n cs
≤-decimal [] n = omega arith
≤-decimal (c ∷ cs) n = omega (arith, ≤-decimal cs (10 * n + (c - 48)))

-- past the limit it does not matter how far past
pub decimal_min : (cs : List ℕ) (n a : ℕ) → min (decimal (min n a) cs) a ≡ min (decimal n cs) a
decimal_min cs n a =
    ⊎_elim
    (λ (lt : n < a). let e : min n a ≡ n = omega arith in ap (λ k. min (decimal k cs) a) e)
    (λ (le : a ≤ n). omega (arith, decimal-≤ cs (min n a) n (omega arith), ≤-decimal cs (min n a), ≤-decimal cs n))
    (order n a)

-- one digit more, but no more than a u32 holds
abbrev pub one_more : ℕ → ℕ → ℕ
one_more n c = min (min (n * 10) 4294967295 + (c - 48)) 4294967295

-- so many digits, one after another, stop at what a u32 holds
pub fold_min : (cs : List ℕ) (n : ℕ) → n ≤ 4294967295 → fold one_more n cs ≡ min (decimal n cs) 4294967295
fold_min [] n h = omega arith
fold_min (c ∷ cs) n h =
    let more : ℕ = 10 * n + (c - 48) in
    let new : one_more n c ≡ min more 4294967295 = omega arith in
    fold_min cs (one_more n c) (omega arith) ∙ ap (λ k. min (decimal k cs) 4294967295) new
    ∙ decimal_min cs more 4294967295

-- ── the number of a token from its magnitude ──

past : (d : ℕ) → d < 4294967295 → min d 4294967295 ≡ d
past d h = omega arith

-- behind a minus, past the limit it does not matter how far past
pub amount_capped : (d : ℕ) (r : Option ℤ) → Amount (neg_ℤ (pos (min d 4294967295))) r → Amount (neg_ℤ (pos d)) r
amount_capped d r h =
    ⊎_elim
    (λ (lt : d < 4294967295). subst (λ n. Amount (neg_ℤ (pos n)) r) (past d lt) h)
    (λ (le : 4294967295 ≤ d). let e : min d 4294967295 ≡ 4294967295 = omega arith in
    far d r le (subst (λ n. Amount (neg_ℤ (pos n)) r) e h))
    (order d 4294967295)
  where
    far : (d : ℕ) (r : Option ℤ) → 4294967295 ≤ d → Amount (negsuc 4294967294) r → Amount (neg_ℤ (pos d)) r
    far zero r le h = absurd (omega arith)
    far (suc d) (Some k) le h = absurd (true≢false (sym h.0))
    far (suc d) None le h = grind (arith, nat_tests)

-- bytes that begin with a minus come to the negative of the rest
pub value_of_minus : (w : List ℕ) → 0 < length w → get_or w 0 0 ≡ 45 → value w ≡ neg_ℤ (pos (decimal 0 (drop 1 w)))
value_of_minus [] h e = absurd (omega arith)
value_of_minus (c ∷ cs) h e = rw e
