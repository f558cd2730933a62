-- A tree back from its bytes: no two trees have the same.
use Rattle.std.proofs.Common.{◌≡◌, ℕ, zero, suc, ◌+◌, ◌*◌, ◌/◌, ◌%◌, ◌<◌, ◌≤◌, true, false, cond, eqb, List, [], ◌∷◌}
use Rattle.std.proofs.Common.{◌++◌, ℤ, sym, refl, ap, ◌∙◌, append_assoc, mod-eq_of_lt, arith, w32, SFits, to_z, of_z}
use mathlib.Core.Option.{Option, some, none}
use native.Mathlib.Nat.{div-div-eq-div-mul}
use Rattle.std.proofs.lemmas.Int.{to_z-of_z, ints}
use Rattle.syntax.specs.Tree.{Tree, number, truth, variable, function, application, let_in, sum, at_most, if_else}
use Rattle.syntax.specs.Tree.{nodes}
use Rattle.syntax.specs.Record.{complement, encode}
use Rattle.syntax.proofs.Complement.{complement_is}
use Rattle.record.specs.Proper.{Proper}
use Rattle.record.proofs.Holding.{some_node}

abbrev pub Found : Type 0
Found = Option (Tree × List ℕ)

-- goes on with a tree and what is left behind it
abbrev pub and_then : Found → (Tree → List ℕ → Found) → Found
and_then none go = none
and_then (some x) go = go x.0 x.1

abbrev pub number_in : List ℕ → Found
number_in [] = none
number_in (a ∷ []) = none
number_in (a ∷ b ∷ []) = none
number_in (a ∷ b ∷ c ∷ []) = none
number_in (a ∷ b ∷ c ∷ d ∷ w) = some (number (to_z w32 (a * 16777216 + b * 65536 + c * 256 + d)), w)

abbrev pub variable_in : List ℕ → Found
variable_in [] = none
variable_in (a ∷ []) = none
variable_in (a ∷ b ∷ w) = some (variable (a * 256 + b), w)

abbrev pub two_in : (List ℕ → Found) → (Tree → Tree → Tree) → List ℕ → Found
two_in rec make w = and_then (rec w) (λ t v. and_then (rec v) (λ u x. some (make t u, x)))

abbrev pub by_kind : (List ℕ → Found) → ℕ → List ℕ → Found
by_kind rec z w =
    cond (eqb z 1) (number_in w)
    (cond (eqb z 2) (some (truth false, w))
    (cond (eqb z 3) (some (truth true, w))
    (cond (eqb z 4) (variable_in w)
    (cond (eqb z 5) (and_then (rec w) (λ t v. some (function t, v)))
    (cond (eqb z 6) (two_in rec application w)
    (cond (eqb z 7) (two_in rec let_in w)
    (cond (eqb z 8) (two_in rec sum w)
    (cond (eqb z 9) (two_in rec at_most w)
    (and_then (rec w) (λ t v. and_then (rec v) (λ u x. and_then (rec x) (λ y z. some (if_else t u y, z)))))))))))))

abbrev pub decode : ℕ → List ℕ → Found
decode zero w = none
decode (suc f) [] = none
decode (suc f) (z ∷ w) = by_kind (decode f) z w

-- four bytes come to the number that they were made from
joined : (x y z w a b c d : ℕ) → a + 256 * y ≡ x → b + 256 * z ≡ y → c + 256 * w ≡ z → d ≡ w
    → d * 16777216 + c * 65536 + b * 256 + a ≡ x
joined x y z w a b c d p q r s = omega arith

digit : (n : ℕ) → n % 256 + 256 * (n / 256) ≡ n
digit n = omega arith

bytes_back : (x : ℕ) → x < 4294967296 → x / 16777216 % 256 * 16777216 + x / 65536 % 256 * 65536 + x /
    256 % 256 * 256 + x % 256 ≡ x
bytes_back x small =
    let a : x / 256 / 256 ≡ x / 65536 = div-div-eq-div-mul x 256 256 in
    let b : x / 65536 / 256 ≡ x / 16777216 = div-div-eq-div-mul x 65536 256 in
    let top : x / 16777216 < 256 = omega arith in
    joined x (x / 256) (x / 65536) (x / 16777216) (x % 256) (x / 256 % 256) (x / 65536 % 256) (x / 16777216 % 256)
    (digit x)
    (ap (λ y. x / 256 % 256 + 256 * y) (sym a) ∙ digit (x / 256)) (ap (λ y. x / 65536 % 256 + 256 * y) (sym b)
    ∙ digit (x / 65536)) (mod-eq_of_lt top)

number_back : (k : ℤ) → SFits w32 k
    → to_z w32 (complement k / 16777216 % 256 * 16777216 + complement k / 65536 % 256 * 65536 + complement k /
    256 % 256 * 256 + complement k % 256) ≡ k
number_back k fits =
    let in_32_bits : of_z w32 k < 4294967296 = omega (arith, ints) in
    let small : complement k < 4294967296 = omega (arith, in_32_bits, complement_is k) in
    ap (to_z w32) (bytes_back (complement k) small ∙ sym (complement_is k)) ∙ to_z-of_z w32 k fits

two_back : (rec : List ℕ → Found) (make : Tree → Tree → Tree) (t u : Tree) (w : List ℕ)
    → rec (encode t ++ (encode u ++ w)) ≡ some (t, encode u ++ w) → rec (encode u ++ w) ≡ some (u, w)
    → two_in rec make ((encode t ++ encode u) ++ w) ≡ some (make t u, w)
two_back rec make t u w a b =
    ap (two_in rec make) (append_assoc (encode t) (encode u) w)
    ∙ ap (λ x. and_then x (λ t v. and_then (rec v) (λ u x. some (make t u, x)))) a
    ∙ ap (λ x. and_then x (λ u x. some (make t u, x))) b

pub decode_encode : (t : Tree) (f b : ℕ) (w : List ℕ) → nodes t ≤ f → b + nodes t ≤ 65536 → Proper b t
    → decode f (encode t ++ w) ≡ some (t, w)
decode_encode (number k) zero b w l m p = absurd (omega arith)
decode_encode (number k) (suc f) b w l m p = ap (λ x. some (number x, w)) (number_back k p)
decode_encode (truth v) zero b w l m p = absurd (omega arith)
decode_encode (truth false) (suc f) b w l m p = refl
decode_encode (truth true) (suc f) b w l m p = refl
decode_encode (variable d) zero b w l m p = absurd (omega arith)
decode_encode (variable d) (suc f) b w l m p = let e : d / 256 % 256 * 256 + d % 256 ≡ d = omega arith in
    ap (λ x. some (variable x, w)) e
decode_encode (function t) zero b w l m p = absurd (omega arith)
decode_encode (function t) (suc f) b w l m p = ap (λ x. and_then x (λ t v. some (function t, v)))
    (decode_encode t f (b + 1) w (omega arith) (omega arith) p)
decode_encode (application t u) zero b w l m p = absurd (omega arith)
decode_encode (application t u) (suc f) b w l m p =
    two_back (decode f) application t u w (decode_encode t f b (encode u ++ w) (omega arith) (omega arith) p.0)
    (decode_encode u f b w (omega arith) (omega arith) p.1)
decode_encode (let_in t u) zero b w l m p = absurd (omega arith)
decode_encode (let_in t u) (suc f) b w l m p =
    two_back (decode f) let_in t u w (decode_encode t f b (encode u ++ w) (omega arith) (omega arith) p.0)
    (decode_encode u f (b + 1) w (omega arith) (omega (arith, some_node t)) p.1)
decode_encode (sum t u) zero b w l m p = absurd (omega arith)
decode_encode (sum t u) (suc f) b w l m p =
    two_back (decode f) sum t u w (decode_encode t f b (encode u ++ w) (omega arith) (omega arith) p.0)
    (decode_encode u f b w (omega arith) (omega arith) p.1)
decode_encode (at_most t u) zero b w l m p = absurd (omega arith)
decode_encode (at_most t u) (suc f) b w l m p =
    two_back (decode f) at_most t u w (decode_encode t f b (encode u ++ w) (omega arith) (omega arith) p.0)
    (decode_encode u f b w (omega arith) (omega arith) p.1)
decode_encode (if_else t u v) zero b w l m p = absurd (omega arith)
decode_encode (if_else t u v) (suc f) b w l m p =
    let go : Tree → Tree → Tree → List ℕ → Found = λ t u y z. some (if_else t u y, z) in
    let e : (encode t ++ (encode u ++ encode v)) ++ w ≡ encode t ++ (encode u ++ (encode v ++ w)) =
    append_assoc (encode t) (encode u ++ encode v) w
    ∙ ap (λ x. encode t ++ x) (append_assoc (encode u) (encode v) w) in
    ap (λ x. and_then (decode f x) (λ t v. and_then (decode f v) (λ u x. and_then (decode f x) (go t u)))) e
    ∙ ap (λ x. and_then x (λ t v. and_then (decode f v) (λ u x. and_then (decode f x) (go t u))))
    (decode_encode t f b (encode u ++ (encode v ++ w)) (omega arith) (omega arith) p.0)
    ∙ ap (λ x. and_then x (λ u x. and_then (decode f x) (go t u))) (decode_encode u f b (encode v ++ w) (omega arith)
    (omega arith) p.1)
    ∙ ap (λ x. and_then x (go t u)) (decode_encode v f b w (omega arith) (omega arith) p.2)
