-- Links made shorter: the tables say the same.
use Rattle.std.proofs.Common.{length, Bor, ◌≡◌, ℕ, ◌+◌, ◌*◌, ◌<◌, ◌≢◌, List, Ok, Err, Result, set, sym, refl, ◌∙◌}
use Rattle.std.proofs.Common.{subst, ap, arith}
use Rattle.calculus.specs.Types.{Ty}
use Rattle.record.specs.declared.received.Received.{Received}
use Rattle.typing.specs.declared.clash.Clash.{Clash}
use Rattle.typing.specs.declared.shape.Shape.{Shape}
use Rattle.typing.specs.declared.shape.Shape.TheVariants.{Open, Link, Arrow}
use Rattle.typing.specs.Shapes.{shape_at}
use Rattle.typing.specs.Classes.{InOrder, Sound, Says, Agrees, stands}
use Rattle.typing.specs.Unified.{Unlinked, StandsFor, Kept, Added, Tried}
use Rattle.typing.proofs.Merging.{link_shape, shape_other, shape_new, sound_new, agrees_new, agrees_old, says_new}
use Rattle.typing.proofs.Merging.{classes_new, next_link, agrees_there, tried_there}

pub kept_same : (m : ℕ) (f s : List ℕ) → Sound m f s → Kept m f s f s
kept_same m f s sound =
    record { sound = sound; fewer = omega arith; before = λ θ g. g; after = λ θ g. g; standing = λ x l u. refl }

module _ (m : ℕ) (f s f₁ s₁ f₂ s₂ : List ℕ) where
  pub kept_twice : Kept m f s f₁ s₁ → Kept m f₁ s₁ f₂ s₂ → Kept m f s f₂ s₂
  kept_twice a b =
      record {
        sound = b.sound;
        fewer = omega (arith, a.fewer, b.fewer);
        before = λ θ g. a.before θ (b.before θ g);
        after = λ θ g. b.after θ (a.after θ g);
        standing = λ x l u. let e = a.standing x l u in b.standing x l (subst Unlinked (sym e) u) ∙ e;
      }

  -- ── before and after a condition ──

  pub kept_tried : (A : (ℕ → Ty) → Type 0) (t : Result (Unit {0}) Clash) → Kept m f s f₁ s₁ → Tried m f₁ s₁ f₂ s₂ A t
      → Tried m f s f₂ s₂ A t
  kept_tried A (Ok u) a b =
      record {
        sound = b.sound;
        fewer = omega (arith, a.fewer, b.fewer);
        before = λ θ g. a.before θ (b.before θ g);
        met = b.met;
        after = λ θ g h. b.after θ (a.after θ g) h;
      }
  kept_tried A (Err clash) a b = λ θ g h. b θ (a.after θ g) h

  pub added_kept : (A : (ℕ → Ty) → Type 0) → Added m f s f₁ s₁ A → Kept m f₁ s₁ f₂ s₂ → Added m f s f₂ s₂ A
  added_kept A a b =
      record {
        sound = b.sound;
        fewer = omega (arith, a.fewer, b.fewer);
        before = λ θ g. a.before θ (b.before θ g);
        met = λ θ g. a.met θ (b.before θ g);
        after = λ θ g h. b.after θ (a.after θ g h);
      }

pub stands_kept : (m : ℕ) (f s f' s' : List ℕ) (x y : ℕ) → Kept m f s f' s' → StandsFor m f s x y
    → StandsFor m f' s' x y
stands_kept m f s f' s' x y kept to =
    record {
      inside = to.inside;
      unlinked = subst Unlinked (sym (kept.standing y to.inside to.unlinked)) to.unlinked;
      same = λ θ g. to.same θ (kept.before θ g);
    }

-- ── one link made shorter ──

module _ (m : ℕ) (f s : List ℕ) (x y z : ℕ) (sound : Sound m f s) (inside : x < m + 2)
    (next : shape_at f s x ≡ Link y) (further : shape_at f s y ≡ Link z) where
  order_x : InOrder m x (Link y)
  order_x = subst (InOrder m x) next (sound.each x inside)

  order_y : InOrder m y (Link z)
  order_y = subst (InOrder m y) further (sound.each y order_x.2)

  pub order_past : InOrder m x (Link z)
  order_past = let a = order_x in let b = order_y in (a.0, omega (arith, a.1, b.1), b.2)

  kept_past : Kept m f s (set f x (z + 1)) (set s x 0)
  kept_past =
      let a = order_x in
      let apart : y ≢ x = λ e. omega (arith, a.1) in
      let still = shape_other m f s x (z + 1) 0 (Link z) (link_shape z) sound inside y apart ∙ further in
      let count = classes_new m f s x (z + 1) 0 (Link z) (link_shape z) sound inside (m + 2) inside in
      let none = ap stands next in
      record {
        sound = sound_new m f s x (z + 1) 0 (Link z) (link_shape z) sound inside order_past;
        fewer = omega arith;
        before = λ θ g.
            let here = says_new m f s x (z + 1) 0 (Link z) (link_shape z) sound inside θ g in
            let there : θ y ≡ θ z = subst (Says θ y) still (g.each y a.2) in
            agrees_old m f s x (z + 1) 0 (Link z) (link_shape z) sound inside θ g (subst (Says θ x) (sym next) (here
            ∙ sym there));
        after = λ θ g.
            let here : θ x ≡ θ y = subst (Says θ x) next (g.each x inside) in
            let there : θ y ≡ θ z = subst (Says θ y) further (g.each y a.2) in
            agrees_new m f s x (z + 1) 0 (Link z) (link_shape z) sound inside θ g (here ∙ there);
        standing = λ w l u.
            let apart : w ≢ x = λ e. subst Unlinked (ap (shape_at f s) e ∙ next) u in
            shape_other m f s x (z + 1) 0 (Link z) (link_shape z) sound inside w apart;
      }

  module _ (f' s' : List ℕ) (is_first : f' ≡ set f x (z + 1)) (is_second : s' ≡ set s x 0) where
    pub kept_shorter : Kept m f s f' s'
    kept_shorter = subst (λ a. Kept m f s a s') (sym is_first) (subst (λ b. Kept m f s (set f x (z + 1)) b)
        (sym is_second) kept_past)

    pub link_past : shape_at f' s' x ≡ Link z
    link_past =
        ap (λ a. shape_at a s' x) is_first ∙ ap (λ b. shape_at (set f x (z + 1)) b x) is_second
        ∙ shape_new m f s x (z + 1) 0 (Link z) (link_shape z) sound inside

-- a link followed once the tables say the same in other words
pub skipped :
    (m : ℕ) (f s f' s' : List ℕ) (x at next : ℕ) →
    Kept m f s f' s' →
    at < m + 2 →
    ((θ : ℕ → Ty) → Agrees m f s θ → θ x ≡ θ at) →
    shape_at f' s' at ≡ Link next →
    (at < next) × (next < m + 2) × ((θ : ℕ → Ty) → Agrees m f' s' θ → θ x ≡ θ next)
skipped m f s f' s' x at next kept inside same is =
    next_link m f' s' x at next kept.sound inside (λ θ g. same θ (kept.before θ g)) (sym is)

no_link : (c : Shape) → ((y : ℕ) → c ≡ Link y → ⊥) → Unlinked c
no_link Open none = tt
no_link (Link y) none = absurd (none y refl)
no_link (Arrow l r) none = tt

-- two places, found one after the other
pub record FoundTwo (m : ℕ) (f s f' s' : List ℕ) (x y x' y' : ℕ) : Type 0 where
  pub kept : Kept m f s f' s'
  pub first : StandsFor m f' s' x x'
  pub second : StandsFor m f' s' y y'

-- ── a later unifier of the same tree ──

module _ (p q : Bor Received) (same : q ≡ p) where
  abbrev before : ℕ
  before = 2 * length p.now.nodes.items

  abbrev now : ℕ
  now = 2 * length q.now.nodes.items

  pub kept_there : (f s f' s' : List ℕ) → Kept now f s f' s' → Kept before f s f' s'
  kept_there f s f' s' h = subst (λ b. Kept (2 * length b.now.nodes.items) f s f' s') same h

  stands_there : (f s : List ℕ) (x y : ℕ) → StandsFor now f s x y → StandsFor before f s x y
  stands_there f s x y h = subst (λ b. StandsFor (2 * length b.now.nodes.items) f s x y) same h

  pub kept_later : (f s f₁ s₁ f₂ s₂ : List ℕ) → Kept before f s f₁ s₁ → Kept now f₁ s₁ f₂ s₂ → Kept before f s f₂ s₂
  kept_later f s f₁ s₁ f₂ s₂ a b = kept_twice before f s f₁ s₁ f₂ s₂ a (kept_there f₁ s₁ f₂ s₂ b)

  pub tried_later :
      (f s f₁ s₁ f₂ s₂ : List ℕ) (A : (ℕ → Ty) → Type 0) (t : Result (Unit {0}) Clash) →
      Kept before f s f₁ s₁ →
      Tried now f₁ s₁ f₂ s₂ A t →
      Tried before f s f₂ s₂ A t
  tried_later f s f₁ s₁ f₂ s₂ A t a b = kept_tried before f s f₁ s₁ f₂ s₂ A t a (tried_there p q same f₁ s₁ f₂ s₂ A t b)

  pub refused_later :
      (f s f₁ s₁ : List ℕ) (A : (ℕ → Ty) → Type 0) →
      Kept before f s f₁ s₁ →
      ((θ : ℕ → Ty) → Agrees now f₁ s₁ θ → ¬ A θ) →
      (θ : ℕ → Ty) →
      Agrees before f s θ →
      ¬ A θ
  refused_later f s f₁ s₁ A a none θ g h = none θ (agrees_there p q same f₁ s₁ θ (a.after θ g)) h

  pub found_here :
      (f s : List ℕ) (x y : ℕ) →
      y < before + 2 →
      ((z : ℕ) → shape_at f s y ≡ Link z → ⊥) →
      ((θ : ℕ → Ty) → Agrees before f s θ → θ x ≡ θ y) →
      StandsFor now f s x y
  found_here f s x y inside none alike =
      subst (λ b. StandsFor (2 * length b.now.nodes.items) f s x y) (sym same)
      (record { inside = inside; unlinked = no_link (shape_at f s y) none; same = alike })

  module _ (r : Bor Received) (later : r ≡ q) where
    pub found_two :
        (f s f₁ s₁ f₂ s₂ : List ℕ) (x y x' y' : ℕ) →
        Kept before f s f₁ s₁ →
        StandsFor now f₁ s₁ x x' →
        Kept now f₁ s₁ f₂ s₂ →
        StandsFor (2 * length r.now.nodes.items) f₂ s₂ y y' →
        FoundTwo before f s f₂ s₂ x y x' y'
    found_two f s f₁ s₁ f₂ s₂ x y x' y' a to_x b to_y =
        let b' = kept_there f₁ s₁ f₂ s₂ b in
        record {
          kept = kept_twice before f s f₁ s₁ f₂ s₂ a b';
          first = stands_kept before f₁ s₁ f₂ s₂ x x' b' (stands_there f₁ s₁ x x' to_x);
          second = subst (λ b. StandsFor (2 * length b.now.nodes.items) f₂ s₂ y y') (later ∙ same) to_y;
        }
