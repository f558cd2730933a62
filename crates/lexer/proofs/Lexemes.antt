-- The tokens that the lexer makes are the longest ones.
use Rattle.std.proofs.Common.{◌≡◌, ℕ, ◌+◌, ◌<◌, ◌≤◌, true, false, eqb, List, ◌∷◌, length, get_or, Ok, ℤ, pos, neg_ℤ}
use Rattle.std.proofs.Common.{true≢false, sym, refl, ap, ◌∙◌, subst, arith, ne_eqb}
use Rattle.std.proofs.lemmas.Bool.Decides.{nat_tests}
use Rattle.grammar.specs.declared.Mark as grammar
use Rattle.grammar.specs.Token.{mark, numeral}
use Rattle.grammar.specs.Token as plain
use Rattle.grammar.specs.Spelling.{letter, digit, decimal}
use Rattle.grammar.specs.Reading.{part, Longest, NoneBeyond}
use Rattle.grammar.proofs.Lexing.{part_cons, longest_digits, longest_minus, none_at}
use Rattle.lexer.specs.declared.token.Placed.{Placed}
use Rattle.lexer.specs.declared.run.Kind.TheVariants.{Digit}
use Rattle.grammar.specs.Reading.{NoNext}
use Rattle.grammar.specs.Walking.{Unread, is_name}
use Rattle.grammar.specs.Walking.{no_token as unread}
use Rattle.lexer.specs.declared.fault.LexFault.{LexFault}
use Rattle.lexer.specs.declared.fault.LexFault.TheVariants.{NoToken}
use Rattle.lexer.specs.Faults.{number, place}
use Rattle.lexer.specs.declared.token.Token.{Token}
use Rattle.lexer.specs.declared.token.Token.TheVariants.{Mark, Name, Number, End}
use Rattle.lexer.specs.Shown.{value, shown, Spelled, TokenAt}
use Rattle.lexer.specs.Runs.{Run}

-- a placed token that shows t up to stop is the longest one where t is
placed : (s : List ℕ) (place stop : ℕ) (t : plain.Token) (p : Placed) → p.stop ≡ stop → shown p.token ≡ t
    → Longest s place stop t → Longest s place p.stop (shown p.token)
placed s place stop t p h e l = subst (λ u. Longest s place p.stop u) (sym e) (subst (λ n. Longest s place n t)
    (sym h) l)

numeral_no_mark : (z : ℤ) (m : grammar.Mark) → numeral z ≡ mark m → ⊥
numeral_no_mark z m e = let no : true ≡ false = cc in true≢false no

-- a sign is no name and no number
sign_spelled : (bytes : List ℕ) (t : Token) (m : grammar.Mark) → shown t ≡ mark m → Spelled bytes t
sign_spelled bytes (Mark n) m e = tt
sign_spelled bytes (Name x) m e = absurd (true≢false (ap is_name e))
sign_spelled bytes (Number x) m e = absurd (numeral_no_mark _ m e)
sign_spelled bytes End m e = tt

module _ (s : List ℕ) (place : ℕ) (p : Placed) (here : p.place ≡ place) where
  pub sign_at : (m : grammar.Mark) (stop : ℕ) → p.stop ≡ stop → shown p.token ≡ mark m → Longest s place stop (mark m)
      → TokenAt s place (Ok p)
  sign_at m stop h e l = (here, placed s place stop (mark m) p h e l, sign_spelled (part s place p.stop) p.token m e)

  pub number_at : shown p.token ≡ numeral (value (part s place p.stop)) → Spelled (part s place p.stop) p.token
      → Longest s place p.stop (numeral (value (part s place p.stop))) → TokenAt s place (Ok p)
  number_at e spelled l = (here, placed s place p.stop (numeral (value (part s place p.stop))) p refl e l, spelled)

digit_no_minus : (c : ℕ) → digit c ≡ true → eqb c 45 ≡ false
digit_no_minus c h = grind (arith, nat_tests)

first : (c : ℕ) (cs : List ℕ) → eqb c 45 ≡ false → value (c ∷ cs) ≡ pos (decimal 0 (c ∷ cs))
first c cs e = rw e

value_digits : (s : List ℕ) (a b : ℕ) → a < b → b ≤ length s → digit (get_or s a 0) ≡ true
    → value (part s a b) ≡ pos (decimal 0 (part s a b))
value_digits s a b lt le d =
    let no_minus = digit_no_minus (get_or s a 0) d in
    ap value (part_cons s a b lt le) ∙ first (get_or s a 0) (part s (a + 1) b) no_minus ∙ ap (λ w. pos (decimal 0 w))
    (sym (part_cons s a b lt le))

value_minus : (s : List ℕ) (a b : ℕ) → a < b → b ≤ length s → get_or s a 0 ≡ 45 → value (part s a b) ≡ neg_ℤ
    (pos (decimal 0 (part s (a + 1) b)))
value_minus s a b lt le e = ap value (part_cons s a b lt le) ∙ rw e

pub longest_number : (s : List ℕ) (a b : ℕ) → a < length s → digit (get_or s a 0) ≡ true → Run Digit s (a + 1) b
    → Longest s a b (numeral (value (part s a b)))
longest_number s a b lt d r =
    subst (λ z. Longest s a b (numeral z)) (sym (value_digits s a b (omega (arith, r.from)) r.inside d))
    (longest_digits s a b (omega (arith, r.from)) r.inside d r.of_kind r.stops)

pub longest_negative : (s : List ℕ) (a b : ℕ) → a + 1 < length s → get_or s a 0 ≡ 45
    → digit (get_or s (a + 1) 0) ≡ true → Run Digit s (a + 1 + 1) b → Longest s a b (numeral (value (part s a b)))
longest_negative s a b lt e d r =
    subst (λ z. Longest s a b (numeral z)) (sym (value_minus s a b (omega (arith, r.from)) r.inside e))
    (longest_minus s a b (omega (arith, r.from)) r.inside e d (λ i p q. r.of_kind i (omega arith) q) r.stops)

-- a minus that begins neither an arrow nor a number
pub no_minus : (s : List ℕ) (a : ℕ) → get_or s a 0 ≡ 45 → (a + 1 < length s → get_or s (a + 1) 0 ≡ 62 → ⊥)
    → (a + 1 < length s → digit (get_or s (a + 1) 0) ≡ false) → NoneBeyond s a a
no_minus s a e no_arrow no_digit = none_at s a 45 e refl (λ lt r. let d = no_digit lt in
    let n = ne_eqb (get_or s (a + 1) 0) 62 (no_arrow lt) in rw (d, n))

-- a `<` that begins no `<=`
pub no_less : (s : List ℕ) (a : ℕ) → get_or s a 0 ≡ 60 → (a + 1 < length s → get_or s (a + 1) 0 ≡ 61 → ⊥)
    → NoneBeyond s a a
no_less s a e no_equals = none_at s a 60 e refl (λ lt r. let n = ne_eqb (get_or s (a + 1) 0) 61 (no_equals lt) in rw n)

-- a byte that begins no token
pub no_token : (s : List ℕ) (a : ℕ) → letter (get_or s a 0) ≡ false → digit (get_or s a 0) ≡ false
    → eqb (get_or s a 0) 45 ≡ false → eqb (get_or s a 0) 61 ≡ false → eqb (get_or s a 0) 60 ≡ false
    → eqb (get_or s a 0) 43 ≡ false → eqb (get_or s a 0) 40 ≡ false → eqb (get_or s a 0) 41 ≡ false → NoneBeyond s a a
no_token s a l d e₁ e₂ e₃ e₄ e₅ e₆ = none_at s a (get_or s a 0) refl (rw (l, d, e₁, e₂, e₃, e₄, e₅, e₆))
    (λ lt r. rw (l, d, e₁, e₂, e₃, e₄, e₅, e₆))

-- where no token begins, none is read
pub refused_part : (s : List ℕ) (from : ℕ) (f : LexFault) → (f ≡ NoToken (place f)) × NoNext s from (place f)
    → Unread s from (number f) (place f)
refused_part s from f h = subst (λ n. Unread s from n (place f)) (sym (ap number h.0)) (unread h.1)
