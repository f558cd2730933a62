-- The nodes from a place on tell one tree.
use Rattle.std.proofs.Common.{◌≡◌, ℕ, ◌+◌, ◌-◌, ◌<◌, ◌≤◌, ◌⊎◌, inl, inr, List, refl, sym, ap, ◌∙◌, subst, arith}
use Rattle.std.proofs.lemmas.Bool.{cases_lt}
use Rattle.syntax.specs.Tree.{Tree, nodes, number, truth, variable, function, application, let_in, sum, at_most}
use Rattle.syntax.specs.Tree.{if_else}
use Rattle.syntax.specs.declared.node.Node.{Node}
use Rattle.syntax.specs.declared.node.Node.TheVariants.{Number, Truth, Variable, Reading, Function, Application}
use Rattle.syntax.specs.declared.node.Node.TheVariants.{LetIn, Sum, AtMost, IfElse}
use Rattle.record.specs.Laws.{OneTree}
use Rattle.record.specs.Nodes.{node_at, named, Holds}
use Rattle.record.proofs.Naming.{names_binder, names_reading}

module _ (ns : List Node) where
  -- a tree made of two, which stand at these places, under so many binders
  abbrev Two : (Tree → Tree → Tree) → ℕ → ℕ → ℕ → ℕ → Tree → Type 0
  Two made b c i j t = (u v : Tree) × (t ≡ made u v) × Holds ns b i u × Holds ns c j v

  -- the tree by its root, under b binders
  abbrev Told : ℕ → Node → Tree → Type 0
  Told b (Number k) t = t ≡ number k
  Told b (Truth v) t = t ≡ truth v
  Told b (Variable d) t = t ≡ variable d
  Told b (Reading j) t = t ≡ variable (b + j)
  Told b (Function i) t = (u : Tree) × (t ≡ function u) × Holds ns (b + 1) i u
  Told b (Application i j) t = Two application b b i j t
  Told b (LetIn i j) t = Two let_in b (b + 1) i j t
  Told b (Sum i j) t = Two sum b b i j t
  Told b (AtMost i j) t = Two at_most b b i j t
  Told b (IfElse i j k) t = (u v w : Tree) × (t ≡ if_else u v w) × Holds ns b i u × Holds ns b j v × Holds ns b k w

  -- a variable by its node
  told_variable : (b d : ℕ) (t : Tree) → (d < b) ⊎ (b ≤ d) → (Told b (named b d) t → t ≡ variable d)
      × (t ≡ variable d → Told b (named b d) t)
  told_variable b d t (inl inner) =
      let is = names_binder b d inner in
      (λ told. subst (λ n. Told b n t) is told, λ same. subst (λ n. Told b n t) (sym is) same)
  told_variable b d t (inr outer) =
      let is = names_reading b d outer in
      let back : b + (d - b) ≡ d = omega arith in (
        λ told. subst (λ n. Told b n t) is told ∙ ap variable back,
        λ same. subst (λ n. Told b n t) (sym is) (same
            ∙ ap variable (sym back)),
      )

  told_at : (b i : ℕ) (t : Tree) → Holds ns b i t → Told b (node_at ns i) t
  told_at b i (number k) h = subst (λ n. Told b n (number k)) (sym h) refl
  told_at b i (truth v) h = subst (λ n. Told b n (truth v)) (sym h) refl
  told_at b i (variable d) h = subst (λ n. Told b n (variable d)) (sym h)
      ((told_variable b d (variable d) (cases_lt d b)).1 refl)
  told_at b i (function u) h = subst (λ n. Told b n (function u)) (sym h.0) (u, refl, h.1)
  told_at b i (application u v) h = subst (λ n. Told b n (application u v)) (sym h.0) (u, v, refl, h.1, h.2)
  told_at b i (let_in u v) h = subst (λ n. Told b n (let_in u v)) (sym h.0) (u, v, refl, h.1, h.2)
  told_at b i (sum u v) h = subst (λ n. Told b n (sum u v)) (sym h.0) (u, v, refl, h.1, h.2)
  told_at b i (at_most u v) h = subst (λ n. Told b n (at_most u v)) (sym h.0) (u, v, refl, h.1, h.2)
  told_at b i (if_else u v w) h = subst (λ n. Told b n (if_else u v w)) (sym h.0) (u, v, w, refl, h.1, h.2, h.3)

  told : (b i : ℕ) (n : Node) (t : Tree) → node_at ns i ≡ n → Holds ns b i t → Told b n t
  told b i n t is h = subst (λ m. Told b m t) is (told_at b i t h)

  same_two : (made : Tree → Tree → Tree) (t u t' u' x : Tree) → t ≡ t' → u ≡ u' → x ≡ made t' u' → made t u ≡ x
  same_two made t u t' u' x p q r = ap (λ y. made y u) p ∙ ap (made t') q ∙ sym r

  -- two trees that are held at one place, under as many binders, are the same
  held_once : (b i : ℕ) (t u : Tree) → Holds ns b i t → Holds ns b i u → t ≡ u
  held_once b i (number k) u h g = sym (told b i (Number k) u h g)
  held_once b i (truth v) u h g = sym (told b i (Truth v) u h g)
  held_once b i (variable d) u h g = sym ((told_variable b d u (cases_lt d b)).0 (told b i (named b d) u h g))
  held_once b i (function t) u h g =
      let o = told b i (Function (i + 1)) u h.0 g in
      ap function (held_once (b + 1) (i + 1) t o.0 h.1 o.2) ∙ sym o.1
  held_once b i (application t v) u h g =
      let j = i + (1 + nodes t) in
      let o = told b i (Application (i + 1) j) u h.0 g in
      same_two application t v o.0 o.1 u (held_once b (i + 1) t o.0 h.1 o.3) (held_once b j v o.1 h.2 o.4) o.2
  held_once b i (let_in t v) u h g =
      let j = i + (1 + nodes t) in
      let o = told b i (LetIn (i + 1) j) u h.0 g in
      same_two let_in t v o.0 o.1 u (held_once b (i + 1) t o.0 h.1 o.3) (held_once (b + 1) j v o.1 h.2 o.4) o.2
  held_once b i (sum t v) u h g =
      let j = i + (1 + nodes t) in
      let o = told b i (Sum (i + 1) j) u h.0 g in
      same_two sum t v o.0 o.1 u (held_once b (i + 1) t o.0 h.1 o.3) (held_once b j v o.1 h.2 o.4) o.2
  held_once b i (at_most t v) u h g =
      let j = i + (1 + nodes t) in
      let o = told b i (AtMost (i + 1) j) u h.0 g in
      same_two at_most t v o.0 o.1 u (held_once b (i + 1) t o.0 h.1 o.3) (held_once b j v o.1 h.2 o.4) o.2
  held_once b i (if_else t v w) u h g =
      let j = i + (1 + nodes t) in
      let k = i + (1 + (nodes t + nodes v)) in
      let o = told b i (IfElse (i + 1) j k) u h.0 g in
      let branches = same_two (if_else o.0) v w o.1 o.2 u (held_once b j v o.1 h.2 o.5) (held_once b k w o.2 h.3 o.6)
      o.3 in
      ap (λ y. if_else y v w) (held_once b (i + 1) t o.0 h.1 o.4) ∙ branches

pub one_tree : OneTree
one_tree x t u a b = held_once x.nodes.items 0 0 t u a.holds b.holds
