-- Trees in a table that grows.
use mathlib.Core.Bool.{Bool}
use mathlib.Core.List.{List, [], ◌∷◌}
use mathlib.Core.Path.{◌≡◌, refl, ◌∙◌, ap}
use lib.IntN.{pos}
use lib.ListN.{length, length-append, get_or-append}
use lib.Seq.{get_or-append_seam}
use native.Mathlib.Omega.{arith}
use Prim.Native.Nat.{ℕ, ◌+◌, ◌≤◌, ◌<◌}
use Rattle.syntax.specs.Tree.{Tree, nodes, number, truth, variable, function, application, let_in, sum, at_most}
use Rattle.syntax.specs.Tree.{if_else}
use Rattle.syntax.specs.Record.{encode}
use Rattle.syntax.specs.declared.node.Node.{Node}
use Rattle.syntax.specs.declared.node.Node.TheVariants.{Number, Truth, Function, Application, LetIn, Sum, AtMost}
use Rattle.syntax.specs.declared.node.Node.TheVariants.{IfElse}
use Rattle.nodes.specs.declared.table.Table.{Table}
use Rattle.nodes.specs.Nodes.{width, at, count, Holds, Pushed, Grown, One}

-- a tree stays where the nodes below a bound stay
pub holds_kept : (t : Tree) (ns ms : List Node) (n i : ℕ) → i < n → ((j : ℕ) → j < n → at ms j ≡ at ns j)
    → Holds ns i t → Holds ms i t
holds_kept (number k) ns ms n i lt same h = same i lt ∙ h
holds_kept (truth b) ns ms n i lt same h = same i lt ∙ h
holds_kept (variable d) ns ms n i lt same h = same i lt ∙ h
holds_kept (function t) ns ms n i lt same h = (
  h.0,
  h.1,
  same i lt ∙ h.2,
  holds_kept t ns ms n h.0 (omega (arith, h.1)) same h.3,
)
holds_kept (application t u) ns ms n i lt same h = (
  h.0,
  h.1,
  h.2,
  h.3,
  same i lt ∙ h.4,
  holds_kept t ns ms n h.0 (omega (arith, h.2)) same h.5,
  holds_kept u ns ms n h.1 (omega (arith, h.3)) same h.6,
)
holds_kept (let_in t u) ns ms n i lt same h = (
  h.0,
  h.1,
  h.2,
  h.3,
  same i lt ∙ h.4,
  holds_kept t ns ms n h.0 (omega (arith, h.2)) same h.5,
  holds_kept u ns ms n h.1 (omega (arith, h.3)) same h.6,
)
holds_kept (sum t u) ns ms n i lt same h = (
  h.0,
  h.1,
  h.2,
  h.3,
  same i lt ∙ h.4,
  holds_kept t ns ms n h.0 (omega (arith, h.2)) same h.5,
  holds_kept u ns ms n h.1 (omega (arith, h.3)) same h.6,
)
holds_kept (at_most t u) ns ms n i lt same h = (
  h.0,
  h.1,
  h.2,
  h.3,
  same i lt ∙ h.4,
  holds_kept t ns ms n h.0 (omega (arith, h.2)) same h.5,
  holds_kept u ns ms n h.1 (omega (arith, h.3)) same h.6,
)
holds_kept (if_else t u v) ns ms n i lt same h = (
  h.0,
  h.1,
  h.2,
  h.3,
  h.4,
  h.5,
  same i lt ∙ h.6,
  holds_kept t ns ms n h.0 (omega (arith, h.3)) same h.7,
  holds_kept u ns ms n h.1 (omega (arith, h.4)) same h.8,
  holds_kept v ns ms n h.2 (omega (arith, h.5)) same h.9,
)

-- ── one node more ──

module _ (before after : Table) (n : Node) (place : ℕ) (p : Pushed before after n place) (fits : count after ≤ 512)
  where
    pub push_room : count before < 512
    push_room = omega (arith, p.counted)

    push_place : count before < 513
    push_place = omega (arith, push_room)

    pub push_next : count after ≡ count before + 1
    push_next = omega (arith, p.counted)

    pub push_here : at after.nodes.items place ≡ n
    push_here = ap (λ i. at after.nodes.items i) p.behind ∙ ap (λ l. at l (count before)) (p.stored push_place)
        ∙ get_or-append_seam before.nodes.items n [] (Number (pos 0))

    pub push_below : (i : ℕ) → i < count before → at after.nodes.items i ≡ at before.nodes.items i
    push_below i lt = ap (λ l. at l i) (p.stored push_place) ∙ get_or-append before.nodes.items (n ∷ [])
        (Number (pos 0)) i lt

    pub push_wider : after.bytes ≡ before.bytes + width n
    push_wider = p.wider push_place

-- ── trees from their parts ──

pub grown_leaf : (t₀ t₁ : Table) (n : Node) (r : ℕ) (t : Tree) → Pushed t₀ t₁ n r → One n t → Grown t₀ t₁ t r
grown_leaf t₀ t₁ n r (number k) p e = record {
  counted = p.counted;
  wider = λ h. push_wider t₀ t₁ n r p h
      ∙ ap (λ m. t₀.bytes + width m) e;
  inside = λ h. omega (arith, p.behind, push_next t₀ t₁ n r p h);
  holds = λ h.
      push_here t₀ t₁ n r p h ∙ e;
  kept = λ h. push_below t₀ t₁ n r p h;
}
grown_leaf t₀ t₁ n r (truth b) p e = record {
  counted = p.counted;
  wider = λ h. push_wider t₀ t₁ n r p h
      ∙ ap (λ m. t₀.bytes + width m) e ∙ truth_width b;
  inside = λ h. omega (arith, p.behind, push_next t₀ t₁ n r p h);
  holds = λ h. push_here t₀ t₁ n r p h ∙ e;
  kept = λ h. push_below t₀ t₁ n r p h;
}
  where
    truth_width : (b : Bool) → t₀.bytes + width (Truth b) ≡ t₀.bytes + length (encode (truth b))
    truth_width Bool.true = refl
    truth_width Bool.false = refl
grown_leaf t₀ t₁ n r (variable d) p e = record {
  counted = p.counted;
  wider = λ h. push_wider t₀ t₁ n r p h
      ∙ ap (λ m. t₀.bytes + width m) e;
  inside = λ h. omega (arith, p.behind, push_next t₀ t₁ n r p h);
  holds = λ h.
      push_here t₀ t₁ n r p h ∙ e;
  kept = λ h. push_below t₀ t₁ n r p h;
}
grown_leaf t₀ t₁ n r (function a) p e = absurd e
grown_leaf t₀ t₁ n r (application a b) p e = absurd e
grown_leaf t₀ t₁ n r (let_in a b) p e = absurd e
grown_leaf t₀ t₁ n r (sum a b) p e = absurd e
grown_leaf t₀ t₁ n r (at_most a b) p e = absurd e
grown_leaf t₀ t₁ n r (if_else a b c) p e = absurd e

pub grown_function : (t₀ t₁ t₂ : Table) (a r : ℕ) (t : Tree) → Grown t₀ t₁ t a → Pushed t₁ t₂ (Function a) r
    → Grown t₀ t₂ (function t) r
grown_function t₀ t₁ t₂ a r t g p =
    let few : count t₂ ≤ 512 → count t₁ ≤ 512 = λ h. omega (arith, push_room t₁ t₂ (Function a) r p h) in
    record {
      counted = omega (arith, g.counted, p.counted);
      wider = λ h. omega (arith, push_wider t₁ t₂ (Function a) r p h, g.wider (few h));
      inside = λ h. omega (arith, p.behind, push_next t₁ t₂ (Function a) r p h);
      holds = λ h. (
        a,
        omega (arith, p.behind, g.inside (few h)),
        push_here t₁ t₂ (Function a) r p h,
        holds_kept t t₁.nodes.items t₂.nodes.items (count t₁) a (g.inside (few h))
            (push_below t₁ t₂ (Function a) r p h) (g.holds (few h)),
      );
      kept = λ h i lt. push_below t₁ t₂ (Function a) r p h i (omega (arith, g.counted, few h)) ∙ g.kept (few h) i lt;
    }

-- the four nodes with two children
module _
    (mk : ℕ → ℕ → Node)
    (tree : Tree → Tree → Tree)
    (narrow : (a b : ℕ) → width (mk a b) ≡ 1)
    (all : (t u : Tree) → nodes (tree t u) ≡ 1 + (nodes t + nodes u))
    (long : (t u : Tree) → length (encode (tree t u)) ≡ 1 + (length (encode t) + length (encode u)))
    (held : (ns : List Node) (i a b : ℕ) (t u : Tree) → a < i → b < i → at ns i ≡ mk a b → Holds ns a t → Holds ns b u
    → Holds ns i (tree t u))
  where
    pub grown_two : (t₀ t₁ t₂ t₃ : Table) (a b r : ℕ) (t u : Tree) → Grown t₀ t₁ t a → Grown t₁ t₂ u b
        → Pushed t₂ t₃ (mk a b) r → Grown t₀ t₃ (tree t u) r
    grown_two t₀ t₁ t₂ t₃ a b r t u g g' p =
        let n = mk a b in
        let few₂ : count t₃ ≤ 512 → count t₂ ≤ 512 = λ h. omega (arith, push_room t₂ t₃ n r p h) in
        let few₁ : count t₃ ≤ 512 → count t₁ ≤ count t₂ = λ h. omega (arith, few₂ h, g'.counted) in
        let few₁' : count t₃ ≤ 512 → count t₁ ≤ 512 = λ h. omega (arith, few₂ h, few₁ h) in
        let below : (h : count t₃ ≤ 512) (i : ℕ) → i < count t₁ → at t₃.nodes.items i ≡ at t₁.nodes.items i =
        λ h i lt. push_below t₂ t₃ n r p h i (omega (arith, few₁ h)) ∙ g'.kept (few₂ h) i lt in
        record {
          counted = omega (arith, g.counted, g'.counted, p.counted, all t u);
          wider = λ h. omega (
            arith,
            push_wider t₂ t₃ n r p h,
            narrow a b,
            g.wider (few₁' h),
            g'.wider (few₂ h),
            long t u,
          );
          inside = λ h. omega (arith, p.behind, push_next t₂ t₃ n r p h);
          holds = λ h. held t₃.nodes.items r a b t u (omega (arith, p.behind, g.inside (few₁' h), few₁ h))
              (omega (arith, p.behind, g'.inside (few₂ h))) (push_here t₂ t₃ n r p h)
              (holds_kept t t₁.nodes.items t₃.nodes.items (count t₁) a (g.inside (few₁' h)) (below h)
              (g.holds (few₁' h))) (holds_kept u t₂.nodes.items t₃.nodes.items (count t₂) b (g'.inside (few₂ h))
              (push_below t₂ t₃ n r p h) (g'.holds (few₂ h)));
          kept = λ h i lt. below h i (omega (arith, g.counted, few₁' h)) ∙ g.kept (few₁' h) i lt;
        }

long_two : (t u : Tree) → 1 + length (mathlib.Core.List.◌++◌ (encode t) (encode u)) ≡ 1 +
    (length (encode t) + length (encode u))
long_two t u = ap (λ n. 1 + n) (length-append (encode t) (encode u))

pub grown_application : (t₀ t₁ t₂ t₃ : Table) (a b r : ℕ) (t u : Tree) → Grown t₀ t₁ t a → Grown t₁ t₂ u b
    → Pushed t₂ t₃ (Application a b) r → Grown t₀ t₃ (application t u) r
grown_application = grown_two Application application (λ a b. refl) (λ t u. refl) (λ t u. omega (arith, long_two t u))
    (λ ns i a b t u l m e h k. (a, b, l, m, e, h, k))

pub grown_let : (t₀ t₁ t₂ t₃ : Table) (a b r : ℕ) (t u : Tree) → Grown t₀ t₁ t a → Grown t₁ t₂ u b
    → Pushed t₂ t₃ (LetIn a b) r → Grown t₀ t₃ (let_in t u) r
grown_let = grown_two LetIn let_in (λ a b. refl) (λ t u. refl) (λ t u. omega (arith, long_two t u))
    (λ ns i a b t u l m e h k. (a, b, l, m, e, h, k))

pub grown_sum : (t₀ t₁ t₂ t₃ : Table) (a b r : ℕ) (t u : Tree) → Grown t₀ t₁ t a → Grown t₁ t₂ u b
    → Pushed t₂ t₃ (Sum a b) r → Grown t₀ t₃ (sum t u) r
grown_sum = grown_two Sum sum (λ a b. refl) (λ t u. refl) (λ t u. omega (arith, long_two t u))
    (λ ns i a b t u l m e h k. (a, b, l, m, e, h, k))

pub grown_at_most : (t₀ t₁ t₂ t₃ : Table) (a b r : ℕ) (t u : Tree) → Grown t₀ t₁ t a → Grown t₁ t₂ u b
    → Pushed t₂ t₃ (AtMost a b) r → Grown t₀ t₃ (at_most t u) r
grown_at_most = grown_two AtMost at_most (λ a b. refl) (λ t u. refl) (λ t u. omega (arith, long_two t u))
    (λ ns i a b t u l m e h k. (a, b, l, m, e, h, k))

long_three : (t u v : Tree) → length (encode (if_else t u v)) ≡ 1 +
    (length (encode t) + (length (encode u) + length (encode v)))
long_three t u v = omega (
  arith,
  length-append (encode t) (mathlib.Core.List.◌++◌ (encode u) (encode v)),
  length-append (encode u) (encode v),
)

pub grown_if : (t₀ t₁ t₂ t₃ t₄ : Table) (a b c r : ℕ) (t u v : Tree) → Grown t₀ t₁ t a → Grown t₁ t₂ u b
    → Grown t₂ t₃ v c → Pushed t₃ t₄ (IfElse a b c) r → Grown t₀ t₄ (if_else t u v) r
grown_if t₀ t₁ t₂ t₃ t₄ a b c r t u v g g' g'' p =
    let n = IfElse a b c in
    let few₃ : count t₄ ≤ 512 → count t₃ ≤ 512 = λ h. omega (arith, push_room t₃ t₄ n r p h) in
    let le₂ : count t₄ ≤ 512 → count t₂ ≤ count t₃ = λ h. omega (arith, few₃ h, g''.counted) in
    let few₂ : count t₄ ≤ 512 → count t₂ ≤ 512 = λ h. omega (arith, few₃ h, le₂ h) in
    let le₁ : count t₄ ≤ 512 → count t₁ ≤ count t₂ = λ h. omega (arith, few₂ h, g'.counted) in
    let few₁ : count t₄ ≤ 512 → count t₁ ≤ 512 = λ h. omega (arith, few₂ h, le₁ h) in
    let below₂ : (h : count t₄ ≤ 512) (i : ℕ) → i < count t₂ → at t₄.nodes.items i ≡ at t₂.nodes.items i = λ h i lt.
    push_below t₃ t₄ n r p h i (omega (arith, le₂ h)) ∙ g''.kept (few₃ h) i lt in
    let below₁ : (h : count t₄ ≤ 512) (i : ℕ) → i < count t₁ → at t₄.nodes.items i ≡ at t₁.nodes.items i = λ h i lt.
    below₂ h i (omega (arith, le₁ h)) ∙ g'.kept (few₂ h) i lt in
    record {
      counted = omega (arith, g.counted, g'.counted, g''.counted, p.counted);
      wider = λ h. omega (
        arith,
        push_wider t₃ t₄ n r p h,
        g.wider (few₁ h),
        g'.wider (few₂ h),
        g''.wider (few₃ h),
        long_three t u v,
      );
      inside = λ h. omega (arith, p.behind, push_next t₃ t₄ n r p h);
      holds = λ h. (
        a,
        b,
        c,
        omega (arith, p.behind, g.inside (few₁ h), le₁ h, le₂ h),
        omega (arith, p.behind, g'.inside (few₂ h), le₂ h),
        omega (arith, p.behind, g''.inside (few₃ h)),
        push_here t₃ t₄ n r p h,
        holds_kept t t₁.nodes.items t₄.nodes.items (count t₁) a (g.inside (few₁ h)) (below₁ h) (g.holds (few₁ h)),
        holds_kept u t₂.nodes.items t₄.nodes.items (count t₂) b (g'.inside (few₂ h)) (below₂ h) (g'.holds (few₂ h)),
        holds_kept v t₃.nodes.items t₄.nodes.items (count t₃) c (g''.inside (few₃ h)) (push_below t₃ t₄ n r p h)
            (g''.holds (few₃ h)),
      );
      kept = λ h i lt. below₁ h i (omega (arith, g.counted, few₁ h)) ∙ g.kept (few₁ h) i lt;
    }
