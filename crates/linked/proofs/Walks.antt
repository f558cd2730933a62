-- Walks over cells, and what a further cell does to the lists.
use Rattle.std.proofs.Common.{◌≡◌, ℕ, zero, suc, ◌+◌, ◌<◌, ◌≤◌, min, ltb, leb, ◌≢◌, List, ◌∷◌, length, get_or, set}
use Rattle.std.proofs.Common.{Some, None, sym, refl, ap, ◌∙◌, ⊎_elim, add-one, arith, length-set, get_or-set_other}
use Rattle.std.proofs.Common.{get_or-set_same}
use Rattle.std.proofs.lemmas.Bool.{ltb-true, le-leb, lt-leb, lt-ltb, cond-true, cond-false, cond_both, cases_lt}
use Rattle.store.proofs.Told.{some_none, some_some, ok_err}
use Rattle.linked.specs.declared.cell.Cell.{Cell}
use Rattle.linked.specs.Walk.{blank_cell, cell_at, lower, walk, list_of, lists_of, whole_of, Pushed}

module _ {T : Type 0} (blank : T) where
  -- lower: the next handle is a lower one
  pub lower_falls : (h : ℕ) (c : Cell T) → 0 < h → lower h c < h
  lower_falls h c p = cond_both (ltb c.below h) c.below 0 (λ n. n < h) (λ e. ltb-true c.below h e) (λ e. p)

  -- lower: a cell that points down says where its list goes on
  pub points_down : (i : ℕ) (c : Cell T) → c.below ≤ i → lower (suc i) c ≡ c.below
  points_down i c p = let t : c.below < suc i = omega arith in cond-true (ltb c.below (suc i)) c.below 0
      (lt-ltb c.below (suc i) t)

  -- walk: any fuel from the handle on gives the same list
  pub walk_fuel : (cells : List (Cell T)) (f g h : ℕ) → h ≤ f → h ≤ g → walk blank cells f h ≡ walk blank cells g h
  walk_fuel cells zero zero h p q = refl
  walk_fuel cells zero (suc g) zero p q = refl
  walk_fuel cells zero (suc g) (suc i) p q = absurd (omega arith)
  walk_fuel cells (suc f) zero zero p q = refl
  walk_fuel cells (suc f) zero (suc i) p q = absurd (omega arith)
  walk_fuel cells (suc f) (suc g) zero p q = refl
  walk_fuel cells (suc f) (suc g) (suc i) p q =
      let c = get_or cells i (blank_cell blank) in
      let falls = lower_falls (suc i) c (omega arith) in
      ap (λ w. c.element ∷ w) (walk_fuel cells f g (lower (suc i) c) (omega arith) (omega arith))

  -- walk: a write at the handle's own number or above it changes nothing
  pub walk_set : (cells : List (Cell T)) (n : ℕ) (d : Cell T) (f h : ℕ) → h ≤ n
      → walk blank (set cells n d) f h ≡ walk blank cells f h
  walk_set cells n d zero h p = refl
  walk_set cells n d (suc f) zero p = refl
  walk_set cells n d (suc f) (suc i) p =
      let c = get_or cells i (blank_cell blank) in
      let falls = lower_falls (suc i) c (omega arith) in
      let apart : i ≢ n = omega arith in
      ap (λ (e : Cell T). e.element ∷ walk blank (set cells n d) f (lower (suc i) e)) (get_or-set_other cells n i d
      (blank_cell blank) apart)
      ∙ ap (λ w. c.element ∷ w) (walk_set cells n d f (lower (suc i) c) (omega arith))

  -- walk: the list of a cell that was just written
  pub walk_fresh : (cells : List (Cell T)) (n : ℕ) (c : Cell T) → n < length cells → c.below ≤ n
      → list_of blank (set cells n c) (suc n) ≡ c.element ∷ list_of blank cells c.below
  walk_fresh cells n c within p =
      let down : lower (suc n) c ≡ c.below = points_down n c p in
      ap (λ (e : Cell T). e.element ∷ walk blank (set cells n c) n (lower (suc n) e))
      (get_or-set_same cells n c (blank_cell blank) within)
      ∙ ap (λ k. c.element ∷ walk blank (set cells n c) n k) down
      ∙ ap (λ w. c.element ∷ w) (walk_set cells n c n c.below p ∙ walk_fuel cells n c.below c.below p (omega arith))

  -- walk: the list of a handle is its cell's element before the list of the handle below
  pub walk_next : (cells : List (Cell T)) (i : ℕ) (c : Cell T) → c ≡ cell_at blank cells i → c.below ≤ i
      → list_of blank cells (suc i) ≡ c.element ∷ list_of blank cells c.below
  walk_next cells i c is p =
      ap (λ (e : Cell T). e.element ∷ walk blank cells i (lower (suc i) e)) (sym is)
      ∙ ap (λ k. c.element ∷ walk blank cells i k) (points_down i c p)
      ∙ ap (λ w. c.element ∷ w) (walk_fuel cells i c.below c.below p (omega arith))

  -- walk: no list is longer than its handle
  pub walk_short : (cells : List (Cell T)) (f h : ℕ) → length (walk blank cells f h) ≤ f
  walk_short cells zero h = omega arith
  walk_short cells (suc f) zero = omega arith
  walk_short cells (suc f) (suc i) = let rest = walk_short cells f (lower (suc i) (cell_at blank cells i)) in
      omega arith

  -- lists_of: which handles have a list
  pub listed : (cells : List (Cell T)) (made h : ℕ) → h ≤ made → h ≤ length cells → lists_of blank cells made h ≡ Some
      (walk blank cells h h)
  listed cells made h p q = let t : h ≤ min made (length cells) = omega arith in
      cond-true (leb h (min made (length cells))) _ _ (le-leb h _ t)

  pub unlisted : (cells : List (Cell T)) (made h : ℕ) → min made (length cells) < h → lists_of blank cells made h ≡ None
  unlisted cells made h p = cond-false (leb h (min made (length cells))) _ _ (lt-leb h _ p)

  -- lists_of: the handles of older cells keep their lists
  pub listed_set : (cells : List (Cell T)) (made h : ℕ) (c : Cell T) → made < length cells → (h ≡ made + 1 → ⊥)
      → lists_of blank (set cells made c) (made + 1) h ≡ lists_of blank cells made h
  listed_set cells made h c within other =
      let same : length (set cells made c) ≡ length cells = length-set cells made c in
      ⊎_elim
      (λ above. let away : made + 1 < h = omega arith in unlisted (set cells made c) (made + 1) h (omega arith)
      ∙ sym (unlisted cells made h (omega arith)))
      (λ below. listed (set cells made c) (made + 1) h (omega arith) (omega arith)
      ∙ ap Some (walk_set cells made c h h below) ∙ sym (listed cells made h below (omega arith)))
      (cases_lt made h)

  -- lists_of: one cell more
  pub extends : (cells : List (Cell T)) (made h : ℕ) (x : T) (c : Cell T) → h ≤ made → made < whole_of cells
      → c.element ≡ x → c.below ≡ h
      → Pushed blank cells (set cells made c) made h x
  extends cells made h x c p within first rest =
      let inside : made < length cells = omega arith in
      let same : length (set cells made c) ≡ length cells = length-set cells made c in
      let old = listed cells made h p (omega arith) in
      let fresh : list_of blank (set cells made c) (suc made) ≡ x ∷ list_of blank cells h =
      walk_fresh cells made c inside (omega arith) ∙ ap (λ y. y ∷ list_of blank cells c.below) first
      ∙ ap (λ k. x ∷ list_of blank cells k) rest in
      let new : lists_of blank (set cells made c) (made + 1) (made + 1) ≡ Some (x ∷ list_of blank cells h) =
      listed (set cells made c) (made + 1) (made + 1) (omega arith) (omega arith) ∙ ap Some (rw add-one fresh) in
      record {
        unlisted = λ none. absurd (some_none old none);
        short = λ l _ less. absurd (omega arith);
        made = λ l e enough. (
          made + 1,
          refl,
          record {
            fresh = unlisted cells made (made + 1) (omega arith);
            known = new ∙ ap (λ w. Some (x ∷ w)) (some_some old e);
            others = λ k other. listed_set cells made k c inside other;
            paid = omega arith;
          },
        );
        refused = λ e bad. absurd (ok_err refl bad);
      }
