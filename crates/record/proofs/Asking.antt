-- What a node's own bytes answer to the questions.
use Rattle.std.proofs.Common.{◌≡◌, ℕ, ◌+◌, ◌<◌, ◌≤◌, true, false, List, [], ◌∷◌, length, get_or, sym, refl, subst}
use Rattle.std.proofs.Common.{w32, FitsSigned, arith}
use mathlib.Core.Option.{none, some}
use Rattle.std.proofs.lemmas.Bool.Decides.{nat_tests}
use Rattle.syntax.specs.Record.{two_bytes, four_bytes}
use Rattle.syntax.specs.Kinds.{byte_of, kind_of, operands_of}
use Rattle.syntax.specs.declared.node.Node.{Node}
use Rattle.syntax.specs.declared.node.Node.TheVariants.{Number, Truth, Variable, Reading, Function, Application}
use Rattle.syntax.specs.declared.node.Node.TheVariants.{LetIn, Sum, AtMost, IfElse}
use Rattle.record.specs.Bytes.{Stands, two_at}
use Rattle.record.specs.Questions.{asked, width}
use Rattle.record.proofs.Standing.{stands_inside}

-- The bytes behind a node's kind byte. A record has no readings: there each variable is told by its distance.
abbrev pub own : Node → List ℕ
own (Number k) = four_bytes k
own (Truth v) = []
own (Variable d) = two_bytes d
own (Reading j) = two_bytes j
own (Function a) = []
own (Application a b) = []
own (LetIn a b) = []
own (Sum a b) = []
own (AtMost a b) = []
own (IfElse a b c) = []

abbrev pub kind : Node → ℕ
kind h = byte_of (kind_of h)

-- a node's own bytes, its children apart
abbrev pub opening : Node → List ℕ
opening h = kind h ∷ own h

-- a number is in range, a variable is told by its distance and bound
abbrev pub Fine : ℕ → Node → Type 0
Fine b (Number k) = FitsSigned w32 k
Fine b (Truth v) = Unit {0}
Fine b (Variable d) = d < b
Fine b (Reading j) = ⊥
Fine b (Function a) = Unit {0}
Fine b (Application a c) = Unit {0}
Fine b (LetIn a c) = Unit {0}
Fine b (Sum a c) = Unit {0}
Fine b (AtMost a c) = Unit {0}
Fine b (IfElse a c d) = Unit {0}

-- node n is this one but for its children, its bytes at place p
pub record Opens (s : List ℕ) (b n p : ℕ) (h : Node) : Type 0 where
  pub among : n < 512
  pub bytes : Stands s p (opening h)
  pub fine : Fine b h

pub own_long : (h : Node) → length (own h) ≡ operands_of (kind_of h)
own_long (Number k) = refl
own_long (Truth false) = refl
own_long (Truth true) = refl
own_long (Variable d) = refl
own_long (Reading j) = refl
own_long (Function a) = refl
own_long (Application a b) = refl
own_long (LetIn a b) = refl
own_long (Sum a b) = refl
own_long (AtMost a b) = refl
own_long (IfElse a b c) = refl

-- a node of a kind with no further bytes passes
plain : (s : List ℕ) (b n p c : ℕ) → n < 512 → p < length s → get_or s p 0 ≡ c → (c ≡ 1 → ⊥) → (c ≡ 4 → ⊥) → 1 ≤ c
    → c ≤ 10 → asked s b n p ≡ none
plain s b n p c few inside is no_number no_variable low high = grind (arith, nat_tests)

numeral : (s : List ℕ) (b n p : ℕ) → n < 512 → p + 5 ≤ length s → get_or s p 0 ≡ 1 → asked s b n p ≡ none
numeral s b n p few inside is = rw is (grind (arith, nat_tests))

distant : (s : List ℕ) (b n p : ℕ) → n < 512 → p + 3 ≤ length s → get_or s p 0 ≡ 4 → two_at s (p + 1) < b
    → asked s b n p ≡ none
distant s b n p few inside is below = rw is (grind (arith, nat_tests))

-- the two bytes of a distance say it
pub two_at_bytes : (s : List ℕ) (p d : ℕ) → d < 65536 → Stands s p (two_bytes d) → two_at s p ≡ d
two_at_bytes s p d small h = let a = h.1 in let b = h.2.1 in omega arith

-- a variable that is not bound is refused
pub unbound : (s : List ℕ) (b n p : ℕ) → n < 512 → p + 3 ≤ length s → get_or s p 0 ≡ 4 → b ≤ two_at s (p + 1)
    → asked s b n p ≡ some (8, p)
unbound s b n p few inside is above = rw is (grind (arith, nat_tests))

-- a node whose bytes are there, bound and among the first 512, passes
pub passes : (s : List ℕ) (b n p : ℕ) (h : Node) → b ≤ 65536 → Opens s b n p h → asked s b n p ≡ none
passes s b n p (Number k) small o = numeral s b n p o.among (stands_inside s p (1 ∷ four_bytes k) o.bytes) o.bytes.1
passes s b n p (Truth false) small o = plain s b n p 2 o.among o.bytes.0 o.bytes.1 (λ e. omega arith)
    (λ e. omega arith) (omega arith) (omega arith)
passes s b n p (Truth true) small o = plain s b n p 3 o.among o.bytes.0 o.bytes.1 (λ e. omega arith)
    (λ e. omega arith) (omega arith) (omega arith)
passes s b n p (Variable d) small o =
    let f : d < b = o.fine in
    let e = two_at_bytes s (p + 1) d (omega arith) o.bytes.2 in
    distant s b n p o.among (stands_inside s p (4 ∷ two_bytes d) o.bytes) o.bytes.1 (subst (λ m. m < b) (sym e) f)
passes s b n p (Reading j) small o = absurd o.fine
passes s b n p (Function a) small o = plain s b n p 5 o.among o.bytes.0 o.bytes.1 (λ e. omega arith)
    (λ e. omega arith) (omega arith) (omega arith)
passes s b n p (Application a c) small o = plain s b n p 6 o.among o.bytes.0 o.bytes.1 (λ e. omega arith)
    (λ e. omega arith) (omega arith) (omega arith)
passes s b n p (LetIn a c) small o = plain s b n p 7 o.among o.bytes.0 o.bytes.1 (λ e. omega arith) (λ e. omega arith)
    (omega arith) (omega arith)
passes s b n p (Sum a c) small o = plain s b n p 8 o.among o.bytes.0 o.bytes.1 (λ e. omega arith) (λ e. omega arith)
    (omega arith) (omega arith)
passes s b n p (AtMost a c) small o = plain s b n p 9 o.among o.bytes.0 o.bytes.1 (λ e. omega arith)
    (λ e. omega arith) (omega arith) (omega arith)
passes s b n p (IfElse a c d) small o = plain s b n p 10 o.among o.bytes.0 o.bytes.1 (λ e. omega arith)
    (λ e. omega arith) (omega arith) (omega arith)

-- where the next node begins
pub width_kind : (h : Node) → width (kind h) ≡ length (opening h)
width_kind (Number k) = refl
width_kind (Truth false) = refl
width_kind (Truth true) = refl
width_kind (Variable d) = refl
width_kind (Reading j) = refl
width_kind (Function a) = refl
width_kind (Application a c) = refl
width_kind (LetIn a c) = refl
width_kind (Sum a c) = refl
width_kind (AtMost a c) = refl
width_kind (IfElse a c d) = refl
