-- Keywords by the length of a word and its bytes.
use Rattle.std.proofs.Common.{◌≡◌, ℕ, suc, Bool, true, false, cond, ◌&&◌, eqb, List, [], ◌∷◌, length, get_or, codes}
use Rattle.std.proofs.Common.{sym, refl, ap, ◌∙◌}
use lib.Dec.{eqb-zero-suc, eqb-suc-zero, eqb-suc-suc}
use Rattle.grammar.specs.declared.Mark.TheVariants.{Fun, Let, In, If, Then, Else, True, False}
use Rattle.grammar.specs.Names.{same}
use Rattle.grammar.specs.Token.{Token, mark, name}
use Rattle.grammar.specs.Spelling.{word}

-- the bytes of w from i on are those of p
abbrev pub reads : List ℕ → ℕ → List ℕ → Bool
reads w i [] = true
reads w i (c ∷ p) = eqb (get_or w i 0) c && reads w (suc i) p

reads_suc : (b : ℕ) (w : List ℕ) (i : ℕ) (p : List ℕ) → reads (b ∷ w) (suc i) p ≡ reads w i p
reads_suc b w i [] = refl
reads_suc b w i (c ∷ p) = ap (λ r. eqb (get_or w i 0) c && r) (reads_suc b w (suc i) p)

swap : (x y z : Bool) → x && (y && z) ≡ y && (x && z)
swap true true z = refl
swap true false z = refl
swap false true z = refl
swap false false z = refl

same_reads : (w p : List ℕ) → same w p ≡ eqb (length w) (length p) && reads w 0 p
same_reads [] [] = refl
same_reads [] (c ∷ p) = sym (ap (λ x. x && reads [] 0 (c ∷ p)) (eqb-zero-suc (length p)))
same_reads (b ∷ w) [] = sym (ap (λ x. x && true) (eqb-suc-zero (length w)))
same_reads (b ∷ w) (c ∷ p) =
    ap (λ x. eqb b c && x) (same_reads w p)
    ∙ swap (eqb b c) (eqb (length w) (length p)) (reads w 0 p)
    ∙ ap (λ x. x && (eqb b c && reads w 0 p)) (sym (eqb-suc-suc (length w) (length p)))
    ∙ ap (λ x. eqb (suc (length w)) (suc (length p)) && (eqb b c && x)) (sym (reads_suc b w 0 p))

abbrev long : List ℕ → List ℕ → Bool
long w p = eqb (length w) (length p) && reads w 0 p

-- a word by tests on its length and its bytes
abbrev pub tested : List ℕ → Token
tested w =
    cond (long w (codes "fun")) (mark Fun)
    (cond (long w (codes "let")) (mark Let)
    (cond (long w (codes "in")) (mark In)
    (cond (long w (codes "if")) (mark If)
    (cond (long w (codes "then")) (mark Then)
    (cond (long w (codes "else")) (mark Else)
    (cond (long w (codes "true")) (mark True)
    (cond (long w (codes "false")) (mark False) (name w))))))))

pub word_tested : (w : List ℕ) → word w ≡ tested w
word_tested w =
    rw (
      same_reads w (codes "fun"),
      same_reads w (codes "let"),
      same_reads w (codes "in"),
      same_reads w (codes "if"),
      same_reads w (codes "then"),
      same_reads w (codes "else"),
      same_reads w (codes "true"),
      same_reads w (codes "false"),
    )

-- the keywords of four bytes alone
pub tested_four : (w : List ℕ) → length w ≡ 4 → tested w ≡ cond (reads w 0 (codes "then")) (mark Then)
    (cond (reads w 0 (codes "else")) (mark Else) (cond (reads w 0 (codes "true")) (mark True) (name w)))
tested_four w e = rw e

-- the keyword of five bytes alone
pub tested_five : (w : List ℕ) → length w ≡ 5 → tested w ≡ cond (reads w 0 (codes "false")) (mark False) (name w)
tested_five w e = rw e
