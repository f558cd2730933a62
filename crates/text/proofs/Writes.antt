-- Bytes written one after another, and what a node holds.
use Rattle.std.proofs.Common.{◌≡◌, ℕ, ◌+◌, ◌<◌, ◌≤◌, ◌⊎◌, Bool, true, false, List, [], ◌∷◌, ◌++◌, length, take, drop}
use Rattle.std.proofs.Common.{sym, refl, ap, ◌∙◌, subst, ⊎_elim, append_assoc, arith, length-append, length-drop}
use Rattle.std.proofs.Common.{length-take}
use Rattle.std.proofs.lemmas.List.{take_at, drop_at, drop-drop}
use Rattle.syntax.specs.Tree.{Tree, number, truth, variable, function, application, let_in, sum, at_most, if_else}
use Rattle.syntax.specs.Record.{encode, two_bytes, four_bytes}
use Rattle.syntax.specs.Kinds.{byte_of, kind_of}
use Rattle.syntax.specs.declared.node.Node.{Node}
use Rattle.syntax.specs.declared.node.Node.TheVariants.{Number, Truth, Variable, Reading, Function, Application}
use Rattle.syntax.specs.declared.node.Node.TheVariants.{LetIn, Sum, AtMost, IfElse}
use Rattle.nodes.specs.Nodes.{at, Holds}
use Rattle.text.specs.Writing.{written, Put, Fits, Wrote}
use Rattle.text.specs.declared.write.Writer.{Writer}

-- ── bytes ──

module _ (out : List ℕ) (from : ℕ) where
  pub length_written : (bs : List ℕ) → from + length bs ≤ length out → length (written out from bs) ≡ length out
  length_written bs h =
      length-append (take from out) (bs ++ drop (from + length bs) out) ∙ ap (λ n. length (take from out) + n)
      (length-append bs (drop (from + length bs) out)) ∙ omega (
        arith,
        length-take from out,
        length-drop (from + length bs) out,
      )

  -- one write behind another
  pub written-++ : (bs cs : List ℕ) (to : ℕ) → to ≡ from + length bs → from ≤ length out
      → written (written out from bs) to cs ≡ written out from (bs ++ cs)
  written-++ bs cs to e h =
      let rest = drop (from + length bs) out in
      let front = take from out ++ bs in
      let long : length front ≡ to = length-append (take from out) bs ∙ omega (arith, length-take from out, e) in
      let shape : written out from bs ≡ front ++ rest = sym (append_assoc (take from out) bs rest) in
      let first : take to (written out from bs) ≡ front = ap (take to) shape ∙ take_at front rest to long in
      let last : drop (to + length cs) (written out from bs) ≡ drop (length cs) rest =
      sym (drop-drop (length cs) to (written out from bs)) ∙ ap (λ l. drop (length cs) (drop to l)) shape
      ∙ ap (drop (length cs)) (drop_at front rest to long) in
      let all : from + length bs + length cs ≡ from + length (bs ++ cs) = omega (arith, length-append bs cs) in
      ap (λ l. l ++ (cs ++ drop (to + length cs) (written out from bs))) first ∙ ap (λ l. front ++ (cs ++ l)) (last
      ∙ drop-drop (length cs) (from + length bs) out ∙ ap (λ n. drop n out) all) ∙ simp append_assoc

-- ── writers ──

-- room for more bytes, behind some
pub later : (w w' : Writer) (bs : List ℕ) (n : ℕ) → Put w w' bs → w.at + (length bs + n) ≤ length w.out.now
    → w'.at + n ≤ length w'.out.now
later w w' bs n p h = omega (arith, p.0, ap length p.1 ∙ length_written w.out.now w.at bs (omega arith))

put_put : (w w₁ w₂ : Writer) (bs cs : List ℕ) → w.at ≤ length w.out.now → Put w w₁ bs → Put w₁ w₂ cs
    → Put w w₂ (bs ++ cs)
put_put w w₁ w₂ bs cs le p q = (
  omega (arith, p.0, q.0, length-append bs cs),
  q.1 ∙ ap (λ o. written o w₁.at cs) p.1
      ∙ written-++ w.out.now w.at bs cs w₁.at p.0 le,
)

-- ── nodes ──

-- a node with two children
abbrev pub HasTwo : Node → ℕ → ℕ → Type 0
HasTwo n a b = (n ≡ Application a b) ⊎ ((n ≡ LetIn a b) ⊎ ((n ≡ Sum a b) ⊎ (n ≡ AtMost a b)))

abbrev Two : List Node → ℕ → ℕ → List ℕ → ℕ → ℕ → Type 0
Two ns i byte bs a b = (u v : Tree) × (bs ≡ byte ∷ (encode u ++ encode v)) × (a < i) × (b < i) × Holds ns a u
    × Holds ns b v

-- the bytes of a tree, by the node at its root
abbrev Split : List Node → ℕ → ℕ → List ℕ → Node → Type 0
Split ns i byte bs (Number k) = bs ≡ byte ∷ four_bytes k
Split ns i byte bs (Truth b) = bs ≡ byte ∷ []
Split ns i byte bs (Variable d) = bs ≡ byte ∷ two_bytes d
Split ns i byte bs (Reading j) = ⊥
Split ns i byte bs (Function a) = (u : Tree) × (bs ≡ byte ∷ encode u) × (a < i) × Holds ns a u
Split ns i byte bs (Application a b) = Two ns i byte bs a b
Split ns i byte bs (LetIn a b) = Two ns i byte bs a b
Split ns i byte bs (Sum a b) = Two ns i byte bs a b
Split ns i byte bs (AtMost a b) = Two ns i byte bs a b
Split ns i byte bs (IfElse a b c) =
    (u v w : Tree) × (bs ≡ byte ∷ ((encode u ++ encode v) ++ encode w)) × (a < i) × (b < i) × (c < i) × Holds ns a u
    × Holds ns b v × Holds ns c w

truth_byte : (b : Bool) → encode (truth b) ≡ byte_of (kind_of (Truth b)) ∷ []
truth_byte true = refl
truth_byte false = refl

pub encode_some : (t : Tree) → 0 < length (encode t)
encode_some (number k) = omega arith
encode_some (truth true) = omega arith
encode_some (truth false) = omega arith
encode_some (variable d) = omega arith
encode_some (function a) = omega arith
encode_some (application a b) = omega arith
encode_some (let_in a b) = omega arith
encode_some (sum a b) = omega arith
encode_some (at_most a b) = omega arith
encode_some (if_else a b c) = omega arith

module _ (ns : List Node) (i byte : ℕ) (own : byte ≡ byte_of (kind_of (at ns i))) where
  -- the byte before what follows it
  before : (m : Node) → at ns i ≡ m → (bs : List ℕ) → byte_of (kind_of m) ∷ bs ≡ byte ∷ bs
  before m h bs = ap (λ k. k ∷ bs) (sym (own ∙ ap (λ n. byte_of (kind_of n)) h))

  split : (t : Tree) (n : Node) → Holds ns i t → at ns i ≡ n → Split ns i byte (encode t) n
  split (number k) n h e = subst (Split ns i byte (encode (number k))) (sym h ∙ e) (before (Number k) h (four_bytes k))
  split (truth b) n h e = subst (Split ns i byte (encode (truth b))) (sym h ∙ e) (truth_byte b ∙ before (Truth b) h [])
  split (variable d) n h e = subst (Split ns i byte (encode (variable d))) (sym h ∙ e)
      (before (Variable d) h (two_bytes d))
  split (function u) n h e = subst (Split ns i byte (encode (function u))) (sym h.2 ∙ e) (
    u,
    before (Function h.0) h.2 (encode u),
    h.1,
    h.3,
  )
  split (application u v) n h e = subst (Split ns i byte (encode (application u v))) (sym h.4 ∙ e) (
    u,
    v,
    before (Application h.0 h.1) h.4 (encode u ++ encode v),
    h.2,
    h.3,
    h.5,
    h.6,
  )
  split (let_in u v) n h e = subst (Split ns i byte (encode (let_in u v))) (sym h.4 ∙ e) (
    u,
    v,
    before (LetIn h.0 h.1) h.4 (encode u ++ encode v),
    h.2,
    h.3,
    h.5,
    h.6,
  )
  split (sum u v) n h e = subst (Split ns i byte (encode (sum u v))) (sym h.4 ∙ e) (
    u,
    v,
    before (Sum h.0 h.1) h.4 (encode u ++ encode v),
    h.2,
    h.3,
    h.5,
    h.6,
  )
  split (at_most u v) n h e = subst (Split ns i byte (encode (at_most u v))) (sym h.4 ∙ e) (
    u,
    v,
    before (AtMost h.0 h.1) h.4 (encode u ++ encode v),
    h.2,
    h.3,
    h.5,
    h.6,
  )
  split (if_else u v w) n h e =
      let whole = before (IfElse h.0 h.1 h.2) h.6 (encode u ++ (encode v ++ encode w))
      ∙ ap (λ l. byte ∷ l) (sym (append_assoc (encode u) (encode v) (encode w))) in
      subst (Split ns i byte (encode (if_else u v w))) (sym h.6 ∙ e) (u, v, w, whole, h.3, h.4, h.5, h.7, h.8, h.9)

  module _ (w w₁ : Writer) (p : Put w w₁ (byte ∷ [])) where
    -- bytes behind the kind
    pub no_reading : (j : ℕ) → at ns i ≡ Reading j → Fits ns i w → ⊥
    no_reading j is f = split f.0 (Reading j) f.2 is

    pub leaf_fits : (n : Node) (cs : List ℕ) → at ns i ≡ n → ((t : Tree) → Split ns i byte (encode t) n
        → encode t ≡ byte ∷ cs) → Fits ns i w → w₁.at + length cs ≤ length w₁.out.now
    leaf_fits n cs e same f = later w w₁ (byte ∷ []) (length cs) p
        (omega (arith, f.3, ap length (same f.0 (split f.0 n f.2 e))))

    pub leaf_wrote : (w₂ : Writer) (n : Node) (cs : List ℕ) → at ns i ≡ n → ((t : Tree) → Split ns i byte (encode t) n
        → encode t ≡ byte ∷ cs) → w.at ≤ length w.out.now → Put w₁ w₂ cs → Wrote ns i w w₂
    leaf_wrote w₂ n cs e same le q = λ t h. subst (Put w w₂) (sym (same t (split t n h e)))
        (put_put w w₁ w₂ (byte ∷ []) cs le p q)

    pub truth_wrote : (b : Bool) → at ns i ≡ Truth b → Wrote ns i w w₁
    truth_wrote b e = λ t h. subst (Put w w₁) (sym (split t (Truth b) h e)) p

    -- ── one child ──

    module _ (a : ℕ) (e : at ns i ≡ Function a) where
      pub body_fits : Fits ns i w → (a < i) × Fits ns a w₁
      body_fits f =
          let s = split f.0 (Function a) f.2 e in (
            s.2,
            (
              s.0,
              omega (arith, f.1, s.2),
              s.3,
              later w w₁ (byte ∷ []) (length (encode s.0)) p
                  (omega (arith, f.3, ap length s.1)),
            ),
          )

      pub body_wrote : (w₂ : Writer) → w.at ≤ length w.out.now → Wrote ns a w₁ w₂ → Wrote ns i w w₂
      body_wrote w₂ le o = λ t h. let s = split t (Function a) h e in
          subst (Put w w₂) (sym s.1) (put_put w w₁ w₂ (byte ∷ []) (encode s.0) le p (o s.0 s.3))

    -- ── two children ──

    module _ (a b : ℕ) (e : HasTwo (at ns i) a b) where
      two : (t : Tree) → Holds ns i t → Two ns i byte (encode t) a b
      two t h =
          ⊎_elim
          (λ (x : at ns i ≡ Application a b). split t (Application a b) h x)
          (λ (y : (at ns i ≡ LetIn a b) ⊎ ((at ns i ≡ Sum a b) ⊎ (at ns i ≡ AtMost a b))). ⊎_elim
          (λ (x : at ns i ≡ LetIn a b). split t (LetIn a b) h x)
          (λ (z : (at ns i ≡ Sum a b) ⊎ (at ns i ≡ AtMost a b)). ⊎_elim (λ (x : at ns i ≡ Sum a b).
          split t (Sum a b) h x) (λ (x : at ns i ≡ AtMost a b). split t (AtMost a b) h x) z)
          y)
          e

      pub first_fits : Fits ns i w → (a < i) × Fits ns a w₁
      first_fits f =
          let s = two f.0 f.2 in
          let n = length-append (encode s.0) (encode s.1) in (
            s.3,
            (
              s.0,
              omega (arith, f.1, s.3),
              s.5,
              omega (
                arith,
                later w w₁ (byte ∷ []) (length (encode s.0) + length (encode s.1)) p
                    (omega (arith, f.3, ap length s.2, n)),
              ),
            ),
          )

      module _ (w₂ : Writer) (o : Wrote ns a w₁ w₂) where
        pub second_fits : Fits ns i w → (b < i) × Fits ns b w₂
        second_fits f =
            let s = two f.0 f.2 in
            let n = length-append (encode s.0) (encode s.1) in (
              s.4,
              (
                s.1,
                omega (arith, f.1, s.4),
                s.6,
                later w₁ w₂ (encode s.0) (length (encode s.1)) (o s.0 s.5)
                    (later w w₁ (byte ∷ []) (length (encode s.0) + length (encode s.1)) p
                    (omega (arith, f.3, ap length s.2, n))),
              ),
            )

        pub both_wrote : (w₃ : Writer) → w.at ≤ length w.out.now → Wrote ns b w₂ w₃ → Wrote ns i w w₃
        both_wrote w₃ le o' =
            λ t h.
            let s = two t h in
            subst (Put w w₃) (sym s.2) (put_put w w₂ w₃ (byte ∷ encode s.0) (encode s.1) le
            (put_put w w₁ w₂ (byte ∷ []) (encode s.0) le p (o s.0 s.5)) (o' s.1 s.6))

    -- ── three children ──

    module _ (a b c : ℕ) (e : at ns i ≡ IfElse a b c) where
      module _ (f : Fits ns i w) where
        parts : Split ns i byte (encode f.0) (IfElse a b c)
        parts = split f.0 (IfElse a b c) f.2 e

        long : w₁.at + (length (encode parts.0) + (length (encode parts.1) + length (encode parts.2))) ≤ length
            w₁.out.now
        long =
            let u = encode parts.0 in
            let v = encode parts.1 in
            let x = encode parts.2 in
            later w w₁ (byte ∷ []) (length u + (length v + length x)) p (omega (
              arith,
              f.3,
              ap length parts.3,
              length-append (u ++ v) x,
              length-append u v,
            ))

        pub condition_fits : (a < i) × Fits ns a w₁
        condition_fits = (parts.4, (parts.0, omega (arith, f.1, parts.4), parts.7, omega (arith, long)))

        module _ (w₂ : Writer) (o : Wrote ns a w₁ w₂) where
          longer : w₂.at + (length (encode parts.1) + length (encode parts.2)) ≤ length w₂.out.now
          longer = later w₁ w₂ (encode parts.0) (length (encode parts.1) + length (encode parts.2))
              (o parts.0 parts.7) long

          pub then_fits : (b < i) × Fits ns b w₂
          then_fits = (parts.5, (parts.1, omega (arith, f.1, parts.5), parts.8, omega (arith, longer)))

          pub else_fits : (w₃ : Writer) → Wrote ns b w₂ w₃ → (c < i) × Fits ns c w₃
          else_fits w₃ o' = (
            parts.6,
            (
              parts.2,
              omega (arith, f.1, parts.6),
              parts.9,
              later w₂ w₃ (encode parts.1)
                  (length (encode parts.2)) (o' parts.1 parts.8) longer,
            ),
          )

      pub all_wrote : (w₂ w₃ w₄ : Writer) → w.at ≤ length w.out.now → Wrote ns a w₁ w₂ → Wrote ns b w₂ w₃
          → Wrote ns c w₃ w₄ → Wrote ns i w w₄
      all_wrote w₂ w₃ w₄ le o o' o'' =
          λ t h.
          let s = split t (IfElse a b c) h e in
          let u = encode s.0 in
          let v = encode s.1 in
          let first = put_put w w₁ w₂ (byte ∷ []) u le p (o s.0 s.7) in
          let second = put_put w w₂ w₃ (byte ∷ u) v le first (o' s.1 s.8) in
          subst (Put w w₄) (sym s.3) (put_put w w₃ w₄ (byte ∷ (u ++ v)) (encode s.2) le second (o'' s.2 s.9))
