-- What a lexer finds byte by byte, as the longest token.
use Rattle.std.proofs.Common.{◌≡◌, ℕ, zero, suc, ◌+◌, ◌-◌, ◌<◌, ◌≤◌, Bool, true, false, ◌&&◌, eqb, ◌⊎◌, List, [], ◌∷◌}
use Rattle.std.proofs.Common.{length, get_or, take, drop, pos, neg_ℤ, sym, refl, ap, ◌∙◌, subst, inl, inr, ⊎_elim}
use Rattle.std.proofs.Common.{add-one, arith, drop-cons, ne_eqb}
use mathlib.Core.Option.{some, none}
use Rattle.std.proofs.lemmas.Bool.Decides.{nat_tests}
use Rattle.std.proofs.str.Laws.{order}
use Rattle.grammar.specs.Token.{Token, numeral}
use Rattle.grammar.specs.Spelling.{letter, digit, word_byte, all, decimal, word, sign, token}
use Rattle.grammar.specs.Reading.{part, NoneBeyond, Longest}

and_true : (a b : Bool) → a ≡ true → b ≡ true → a && b ≡ true
and_true a b p q = ap (λ x. x && b) p ∙ q

and_false : (a b : Bool) → b ≡ false → a && b ≡ false
and_false true b q = q
and_false false b q = refl

last_or_on : (a n : ℕ) → a < n → (n ≡ a + 1) ⊎ (a + 1 < n)
last_or_on a n h = ⊎_elim (λ p. inr p) (λ p. inl (omega arith)) (order (a + 1) n)

-- ── what the first byte decides ──

digit_bounds : (c : ℕ) → digit c ≡ true → (48 ≤ c) × (c ≤ 57)
digit_bounds c h = grind (arith, nat_tests)

digit_no_letter : (c : ℕ) → digit c ≡ true → letter c ≡ false
digit_no_letter c h = grind (arith, nat_tests)

-- a byte that begins no sign
pub sign_none : (c : ℕ) (cs : List ℕ) → eqb c 45 ≡ false → eqb c 61 ≡ false → eqb c 60 ≡ false → eqb c 43 ≡ false
    → eqb c 40 ≡ false → eqb c 41 ≡ false → sign (c ∷ cs) ≡ none
sign_none c cs a b d e f g = rw (a, b, d, e, f, g)

token_word : (c : ℕ) (cs : List ℕ) → letter c ≡ true → all word_byte cs ≡ true → token (c ∷ cs) ≡ some (word (c ∷ cs))
token_word c cs l w = rw (l, w)

token_no_word : (c : ℕ) (cs : List ℕ) → letter c ≡ true → all word_byte cs ≡ false → token (c ∷ cs) ≡ none
token_no_word c cs l w = rw (l, w)

token_digits : (c : ℕ) (cs : List ℕ) → digit c ≡ true → all digit cs ≡ true
    → token (c ∷ cs) ≡ some (numeral (pos (decimal 0 (c ∷ cs))))
token_digits c cs d w = let l = digit_no_letter c d in rw (l, d, w)

token_no_digits : (c : ℕ) (cs : List ℕ) → digit c ≡ true → all digit cs ≡ false → token (c ∷ cs) ≡ none
token_no_digits c cs d w =
    let l = digit_no_letter c d in
    let b = digit_bounds c d in
    let e₁ = ne_eqb c 45 (λ e. omega arith) in
    let e₂ = ne_eqb c 61 (λ e. omega arith) in
    let e₃ = ne_eqb c 60 (λ e. omega arith) in
    let e₄ = ne_eqb c 43 (λ e. omega arith) in
    let e₅ = ne_eqb c 40 (λ e. omega arith) in
    let e₆ = ne_eqb c 41 (λ e. omega arith) in
    rw (l, d, w, e₁, e₂, e₃, e₄, e₅, e₆)

token_minus : (c : ℕ) (cs : List ℕ) → digit c ≡ true → all digit cs ≡ true → token (45 ∷ c ∷ cs) ≡ some
    (numeral (neg_ℤ (pos (decimal 0 (c ∷ cs)))))
token_minus c cs d w = rw (d, w)

token_no_minus : (c : ℕ) (cs : List ℕ) → digit c ≡ true → all digit cs ≡ false → token (45 ∷ c ∷ cs) ≡ none
token_no_minus c cs d w =
    let b = digit_bounds c d in
    let m = ne_eqb c 62 (λ e. omega arith) in
    rw (d, w, m)

module _ (s : List ℕ) where
  pub part_cons : (a b : ℕ) → a < b → b ≤ length s → part s a b ≡ get_or s a 0 ∷ part s (a + 1) b
  part_cons a b h k =
      let lt : a < length s = omega arith in
      let e : b - a ≡ suc (b - (a + 1)) = omega arith in
      ap (λ n. take n (drop a s)) e ∙ ap (take (suc (b - (a + 1)))) (drop-cons s a 0 lt)
      ∙ ap (λ n. get_or s a 0 ∷ take (b - (a + 1)) (drop n s)) (sym (add-one a))

  pub part_empty : (a : ℕ) → part s a a ≡ []
  part_empty a = let e : a - a ≡ 0 = omega arith in ap (λ n. take n (drop a s)) e

  -- ── runs of one kind of byte ──

  pub all_part : (test : ℕ → Bool) (n a : ℕ) → a + n ≤ length s → ((i : ℕ) → a ≤ i → i < a + n
      → test (get_or s i 0) ≡ true) → all test (part s a (a + n)) ≡ true
  all_part test zero a h k = let e : a + 0 - a ≡ 0 = omega arith in ap (λ m. all test (take m (drop a s))) e
  all_part test (suc n) a h k =
      let lt : a < a + suc n = omega arith in
      let e : a + suc n ≡ (a + 1) + n = omega arith in
      ap (all test) (part_cons a (a + suc n) lt h) ∙ and_true _ _ (k a (omega arith) lt)
      (ap (λ b. all test (part s (a + 1) b)) e ∙ all_part test n (a + 1) (omega arith)
      (λ i p q. k i (omega arith) (omega arith)))

  pub all_between : (test : ℕ → Bool) (a b : ℕ) → a ≤ b → b ≤ length s
      → ((i : ℕ) → a ≤ i → i < b → test (get_or s i 0) ≡ true) → all test (part s a b) ≡ true
  all_between test a b le h k =
      let e : a + (b - a) ≡ b = omega arith in
      subst (λ c. all test (part s a c) ≡ true) e (all_part test (b - a) a (omega arith) (λ i p q. k i p (omega arith)))

  not_all_part : (test : ℕ → Bool) (d a b : ℕ) → a + d < b → b ≤ length s → test (get_or s (a + d) 0) ≡ false
      → all test (part s a b) ≡ false
  not_all_part test zero a b h k e =
      let z : a + 0 ≡ a = omega arith in
      ap (all test) (part_cons a b (omega arith) k) ∙ ap (λ x. x && all test (part s (a + 1) b))
      (subst (λ i. test (get_or s i 0) ≡ false) z e)
  not_all_part test (suc d) a b h k e =
      let z : a + suc d ≡ (a + 1) + d = omega arith in
      ap (all test) (part_cons a b (omega arith) k) ∙ and_false _ _ (not_all_part test d (a + 1) b (omega arith) k
      (subst (λ i. test (get_or s i 0) ≡ false) z e))

  pub not_all_between : (test : ℕ → Bool) (i a b : ℕ) → a ≤ i → i < b → b ≤ length s → test (get_or s i 0) ≡ false
      → all test (part s a b) ≡ false
  not_all_between test i a b le lt h e =
      let z : a + (i - a) ≡ i = omega arith in
      not_all_part test (i - a) a b (omega arith) h (subst (λ j. test (get_or s j 0) ≡ false) (sym z) e)

  -- ── tokens of one and of two bytes ──

  pub longest_one : (a c : ℕ) (t : Token) → a < length s → get_or s a 0 ≡ c → token (c ∷ []) ≡ some t
      → ((d : ℕ) (r : List ℕ) → token (c ∷ d ∷ r) ≡ none) → Longest s a (a + 1) t
  longest_one a c t lt e one more = record {
    some_bytes = omega arith;
    inside = omega arith;
    spells = ap token (part_cons a (a + 1) (omega arith) (omega arith))
        ∙ ap token (ap (λ x. x ∷ part s (a + 1) (a + 1)) e ∙ ap (λ l. c ∷ l) (part_empty (a + 1))) ∙ one;
    longest = λ n p q. ap token (part_cons a n (omega arith) q ∙ ap (λ x. x ∷ part s (a + 1) n) e
        ∙ ap (λ l. c ∷ l) (part_cons (a + 1) n p q)) ∙ more (get_or s (a + 1) 0) (part s (a + 1 + 1) n);
  }

  pub longest_two : (a c d : ℕ) (t : Token) → a + 1 < length s → get_or s a 0 ≡ c → get_or s (a + 1) 0 ≡ d
      → token (c ∷ d ∷ []) ≡ some t → ((b : ℕ) (r : List ℕ) → token (c ∷ d ∷ b ∷ r) ≡ none) → Longest s a (a + 2) t
  longest_two a c d t lt e f two more =
      let next : a + 1 + 1 ≡ a + 2 = omega arith in
      let front : (n : ℕ) → a + 1 < n → n ≤ length s → part s a n ≡ c ∷ d ∷ part s (a + 2) n = λ n p q.
      part_cons a n (omega arith) q ∙ ap (λ x. x ∷ part s (a + 1) n) e
      ∙ ap (λ l. c ∷ l) (part_cons (a + 1) n p q ∙ ap (λ x. x ∷ part s (a + 1 + 1) n) f
      ∙ ap (λ i. d ∷ part s i n) next) in
      record {
        some_bytes = omega arith;
        inside = omega arith;
        spells = ap token (front (a + 2) (omega arith) (omega arith) ∙ ap (λ l. c ∷ d ∷ l) (part_empty (a + 2))) ∙ two;
        longest = λ n p q. ap token (front n (omega arith) q ∙ ap (λ l. c ∷ d ∷ l) (part_cons (a + 2) n p q))
            ∙ more (get_or s (a + 2) 0) (part s (a + 2 + 1) n);
      }

  pub none_at : (a c : ℕ) → get_or s a 0 ≡ c → token (c ∷ []) ≡ none → (a + 1 < length s → (r : List ℕ)
      → token (c ∷ get_or s (a + 1) 0 ∷ r) ≡ none) → NoneBeyond s a a
  none_at a c e one more n p q =
      ⊎_elim
      (λ (last : n ≡ a + 1). ap token (part_cons a n p q ∙ ap (λ x. x ∷ part s (a + 1) n) e
      ∙ ap (λ m. c ∷ part s (a + 1) m) last ∙ ap (λ l. c ∷ l) (part_empty (a + 1))) ∙ one)
      (λ (on : a + 1 < n). ap token (part_cons a n p q ∙ ap (λ x. x ∷ part s (a + 1) n) e
      ∙ ap (λ l. c ∷ l) (part_cons (a + 1) n on q)) ∙ more (omega arith) (part s (a + 1 + 1) n))
      (last_or_on a n p)

  -- ── words and numbers ──

  pub longest_word : (a b : ℕ) → a < b → b ≤ length s → letter (get_or s a 0) ≡ true → ((i : ℕ) → a + 1 ≤ i → i < b
      → word_byte (get_or s i 0) ≡ true) → (b < length s → word_byte (get_or s b 0) ≡ false)
      → Longest s a b (word (part s a b))
  longest_word a b lt le l run stops =
      record {
        some_bytes = lt;
        inside = le;
        spells = ap token (part_cons a b lt le) ∙ token_word (get_or s a 0) (part s (a + 1) b) l
            (all_between word_byte (a + 1) b (omega arith) le run)
            ∙ ap (λ w. some (word w)) (sym (part_cons a b lt le));
        longest = λ n p q. ap token (part_cons a n (omega arith) q) ∙ token_no_word (get_or s a 0) (part s (a + 1) n)
            l (not_all_between word_byte b (a + 1) n (omega arith) p q (stops (omega arith)));
      }

  pub longest_digits : (a b : ℕ) → a < b → b ≤ length s → digit (get_or s a 0) ≡ true → ((i : ℕ) → a + 1 ≤ i → i < b
      → digit (get_or s i 0) ≡ true) → (b < length s → digit (get_or s b 0) ≡ false)
      → Longest s a b (numeral (pos (decimal 0 (part s a b))))
  longest_digits a b lt le l run stops =
      record {
        some_bytes = lt;
        inside = le;
        spells = ap token (part_cons a b lt le) ∙ token_digits (get_or s a 0) (part s (a + 1) b) l
            (all_between digit (a + 1) b (omega arith) le run) ∙ ap (λ w. some (numeral (pos (decimal 0 w))))
            (sym (part_cons a b lt le));
        longest = λ n p q. ap token (part_cons a n (omega arith) q) ∙ token_no_digits (get_or s a 0)
            (part s (a + 1) n) l (not_all_between digit b (a + 1) n (omega arith) p q (stops (omega arith)));
      }

  pub longest_minus : (a b : ℕ) → a + 1 < b → b ≤ length s → get_or s a 0 ≡ 45 → digit (get_or s (a + 1) 0) ≡ true
      → ((i : ℕ) → a + 2 ≤ i → i < b → digit (get_or s i 0) ≡ true) → (b < length s → digit (get_or s b 0) ≡ false)
      → Longest s a b (numeral (neg_ℤ (pos (decimal 0 (part s (a + 1) b)))))
  longest_minus a b lt le e l run stops =
      let next : a + 1 + 1 ≡ a + 2 = omega arith in
      let front : (n : ℕ) → a + 1 < n → n ≤ length s → part s a n ≡ 45 ∷ get_or s (a + 1) 0 ∷ part s (a + 2) n =
      λ n p q. part_cons a n (omega arith) q ∙ ap (λ x. x ∷ part s (a + 1) n) e
      ∙ ap (λ l. 45 ∷ l) (part_cons (a + 1) n p q ∙ ap (λ i. get_or s (a + 1) 0 ∷ part s i n) next) in
      record {
        some_bytes = omega arith;
        inside = le;
        spells = ap token (front b lt le) ∙ token_minus (get_or s (a + 1) 0) (part s (a + 2) b) l
            (all_between digit (a + 2) b (omega arith) le run) ∙ ap (λ w. some (numeral (neg_ℤ (pos (decimal 0 w)))))
            (sym (part_cons (a + 1) b lt le ∙ ap (λ i. get_or s (a + 1) 0 ∷ part s i b) next));
        longest = λ n p q. ap token (front n (omega arith) q) ∙ token_no_minus (get_or s (a + 1) 0) (part s (a + 2) n)
            l (not_all_between digit b (a + 2) n (omega arith) p q (stops (omega arith)));
      }
