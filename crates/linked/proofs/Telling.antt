-- Cells that tell the truth of their lists: blank ones, written ones, and what they tell.
use Rattle.std.proofs.Common.{◌≡◌, ℕ, zero, suc, ◌+◌, ◌-◌, ◌%◌, ◌<◌, ◌≤◌, ◌≢◌, List, ◌∷◌, ◌++◌, length, drop, get_or}
use Rattle.std.proofs.Common.{set, replicate, sym, refl, ap, ◌∙◌, ⊎_elim, arith, length-append, length-drop}
use Rattle.std.proofs.Common.{get_or-drop, get_or-set_other, get_or-set_same, ext_get_or}
use Rattle.std.proofs.lemmas.Bool.{cases_lt}
use Rattle.std.proofs.lemmas.List.{get_or-replicate, get_or_past, get_or_default, length-replicate}
use Rattle.std.proofs.lemmas.List.{replicate-append-replicate}
use Rattle.linked.specs.declared.cell.Cell.{Cell}
use Rattle.linked.specs.Walk.{blank_cell, cell_at, list_of, Tells, Told, Spare}
use Rattle.linked.proofs.Walks.{walk_set, walk_next, walk_short}

-- modulo 8, one more is one more or none
pub one_more : (u : ℕ) → (u + 1) % 8 ≢ 0 → (u + 1) % 8 ≡ suc (u % 8)
one_more u nz = omega arith

pub below_eight : (u : ℕ) → u % 8 < 8
below_eight u = omega arith

module _ {T : Type 0} (blank : T) where
  -- blank cells
  pub blank_tells : (cells : List (Cell T)) (i : ℕ) → Tells blank cells i (blank_cell blank)
  blank_tells cells i = record { down = omega arith; far_down = omega arith; counted = refl; cut = refl }

  pub told_at : (cells : List (Cell T)) (i : ℕ) (c : Cell T) → c ≡ blank_cell blank → Tells blank cells i c
  told_at cells i c is = rw is (blank_tells cells i)

  pub cell_of_blanks : (n i : ℕ) → cell_at blank (replicate n (blank_cell blank)) i ≡ blank_cell blank
  cell_of_blanks n i =
      ⊎_elim
      (λ inside. get_or-replicate n i (blank_cell blank) (blank_cell blank) inside)
      (λ past. get_or_past (replicate n (blank_cell blank)) i (blank_cell blank)
      (let long = length-replicate n (blank_cell blank) in omega arith))
      (cases_lt i n)

  pub blanks_told : (cells : List (Cell T)) (n : ℕ) → cells ≡ replicate n (blank_cell blank) → Told blank cells
  blanks_told cells n is = rw is (λ i. told_at (replicate n (blank_cell blank)) i _ (cell_of_blanks n i))

  pub blanks_spare : (cells : List (Cell T)) (n made : ℕ) → cells ≡ replicate n (blank_cell blank)
      → Spare blank cells made
  blanks_spare cells n made is = rw is (λ i _. cell_of_blanks n i)

  spare_rest : (cells : List (Cell T)) (made : ℕ) → Spare blank cells made → drop made cells ≡ replicate
      (length (drop made cells)) (blank_cell blank)
  spare_rest cells made spare =
      ext_get_or (blank_cell blank) (drop made cells) (replicate (length (drop made cells)) (blank_cell blank))
      (sym (length-replicate (length (drop made cells)) (blank_cell blank)))
      (λ i _. get_or-drop made cells i (blank_cell blank) ∙ spare (made + i) (omega arith)
      ∙ sym (cell_of_blanks (length (drop made cells)) i))

  -- the made cells were blanked, and the others were blank
  pub blanked : (front cells : List (Cell T)) (made : ℕ) → front ≡ replicate (length front) (blank_cell blank)
      → Spare blank cells made
      → front ++ drop made cells ≡ replicate (length (front ++ drop made cells)) (blank_cell blank)
  blanked front cells made is spare =
      let b = blank_cell blank in
      let rest = drop made cells in
      ap (λ l. l ++ rest) is ∙ ap (λ l. replicate (length front) b ++ l) (spare_rest cells made spare)
      ∙ replicate-append-replicate (length front) (length rest) b
      ∙ ap (λ n. replicate n b) (sym (length-append front rest))

  -- one cell written
  module _ (cells : List (Cell T)) (made : ℕ) (d : Cell T) (inside : made < length cells)
      (spare : Spare blank cells made) where
    tells_set : (i : ℕ) (c : Cell T) → i ≤ made → Tells blank cells i c → Tells blank (set cells made d) i c
    tells_set i c low tells =
        let below = walk_set blank cells made d c.below c.below (omega (arith, tells.down)) in
        let far = walk_set blank cells made d c.skip c.skip (omega (arith, tells.far_down)) in
        record {
          down = tells.down;
          far_down = tells.far_down;
          counted = tells.counted ∙ ap length (sym below);
          cut = far ∙ tells.cut ∙ ap (drop (c.under % 8)) (sym below);
        }

    pub spare_set : Spare blank (set cells made d) (made + 1)
    spare_set i past = let other : i ≢ made = omega arith in get_or-set_other cells made i d (blank_cell blank) other
        ∙ spare i (omega arith)

    told_here : (i : ℕ) → i ≡ made → Tells blank cells made d → Tells blank (set cells made d) i
        (cell_at blank (set cells made d) i)
    told_here i here tells = rw here (rw (get_or-set_same cells made d (blank_cell blank) inside)
        (tells_set made d (omega arith) tells))

    told_before : (i : ℕ) → i < made → Told blank cells → Tells blank (set cells made d) i
        (cell_at blank (set cells made d) i)
    told_before i before told =
        let other : i ≢ made = omega arith in
        rw (get_or-set_other cells made i d (blank_cell blank) other) (tells_set i (cell_at blank cells i)
        (omega arith) (told i))

    told_behind : (i : ℕ) → made + 1 ≤ i → Tells blank (set cells made d) i (cell_at blank (set cells made d) i)
    told_behind i behind = told_at (set cells made d) i _ (spare_set i behind)

    pub told_set : Told blank cells → Tells blank cells made d → Told blank (set cells made d)
    told_set told tells i =
        ⊎_elim
        (λ before. told_before i before told)
        (λ here. ⊎_elim
        (λ behind. told_behind i (omega (arith, behind)))
        (λ low. told_here i (omega (arith, here, low)) tells)
        (cases_lt made i))
        (cases_lt i made)

  -- a cell that was read tells of its handle's list
  pub read_cell : (cells : List (Cell T)) (i : ℕ) (c : Cell T) → i < length cells → c ≡ get_or cells i c
      → c ≡ cell_at blank cells i
  read_cell cells i c within read = read ∙ sym (get_or_default cells i (blank_cell blank) c within)

  module _ (cells : List (Cell T)) (told : Told blank cells) (h : ℕ) (c : Cell T) (some : 0 < h)
      (inside : h ≤ length cells) (read : c ≡ get_or cells (h - 1) c) where
    here : c ≡ cell_at blank cells (h - 1)
    here = read_cell cells (h - 1) c (omega (arith, some, inside)) read

    pub read_tells : Tells blank cells (h - 1) c
    read_tells = rw here (told (h - 1))

    pub read_next : list_of blank cells h ≡ c.element ∷ list_of blank cells c.below
    read_next =
        let is : h ≡ suc (h - 1) = omega (arith, some) in
        ap (λ n. list_of blank cells n) is ∙ walk_next blank cells (h - 1) c here read_tells.down

    pub read_length : c.under + 1 ≡ length (list_of blank cells h)
    read_length = let long = ap length read_next in let n = read_tells.counted in omega (arith, long, n)

    pub read_low : c.under < h
    read_low =
        let short = walk_short blank cells c.below c.below in let n = read_tells.counted in let d = read_tells.down in
        omega (arith, short, n, d, some)

    -- what is cut off below a cell that is put before this one
    pub read_cut : (u : ℕ) → u ≡ length (list_of blank cells h) → u % 8 ≢ 0 → list_of blank cells c.skip ≡ drop
        (u % 8) (list_of blank cells h)
    read_cut u is other =
        let before : u ≡ c.under + 1 = is ∙ sym read_length in
        let nz : (c.under + 1) % 8 ≢ 0 = λ z. other (ap (λ n. n % 8) before ∙ z) in
        read_tells.cut ∙ sym (ap (drop (u % 8)) read_next ∙ ap (λ k. drop k (c.element ∷ list_of blank cells c.below))
        (ap (λ n. n % 8) before ∙ one_more c.under nz))

  -- a look on its way: what is left of the way leads to the same element
  pub record Reached (cells : List (Cell T)) (h i at left : ℕ) : Type 0 where
    pub inside : at ≤ length cells
    pub within : left < length (list_of blank cells at)
    pub same : (d : T) → get_or (list_of blank cells h) i d ≡ get_or (list_of blank cells at) left d

  pub some_handle : (cells : List (Cell T)) (at left : ℕ) → left < length (list_of blank cells at) → 0 < at
  some_handle cells zero left within = absurd (omega arith)
  some_handle cells (suc k) left within = omega arith

  module _ (cells : List (Cell T)) (told : Told blank cells) (h i at left : ℕ) (c : Cell T)
      (reached : Reached cells h i at left) (read : c ≡ get_or cells (at - 1) c) where
    some : 0 < at
    some = some_handle cells at left reached.within

    pub reached_tells : Tells blank cells (at - 1) c
    reached_tells = read_tells cells told at c some reached.inside read

    pub reached_low : c.under < at
    reached_low = read_low cells told at c some reached.inside read

    next : list_of blank cells at ≡ c.element ∷ list_of blank cells c.below
    next = read_next cells told at c some reached.inside read

    long : length (list_of blank cells at) ≡ suc (length (list_of blank cells c.below))
    long = ap length next

    pub reached_down : 0 < left → Reached cells h i c.below (left - 1)
    reached_down more =
        let shift : left ≡ suc (left - 1) = omega arith in
        record {
          inside = let d = reached_tells.down in let r = reached.inside in omega (arith, d, r);
          within = let w = reached.within in let l = long in omega (arith, w, l, more);
          same = λ d. reached.same d ∙ ap (λ w. get_or w left d) next
              ∙ ap (λ n. get_or (c.element ∷ list_of blank cells c.below) n d) shift;
        }

    pub reached_far : 8 ≤ left → Reached cells h i c.skip (left - (c.under % 8 + 1))
    reached_far more =
        let few : c.under % 8 < 8 = below_eight c.under in
        let rest : length (list_of blank cells c.skip) ≡ length (list_of blank cells c.below) - c.under % 8 =
        ap length reached_tells.cut ∙ length-drop (c.under % 8) (list_of blank cells c.below) in
        let shift : left ≡ suc (c.under % 8 + (left - (c.under % 8 + 1))) = omega (arith, few, more) in
        record {
          inside = let d = reached_tells.far_down in let r = reached.inside in omega (arith, d, r);
          within = let w = reached.within in let l = long in omega (arith, w, l, more, few, rest);
          same = λ d. reached.same d ∙ ap (λ w. get_or w left d) next
              ∙ ap (λ n. get_or (c.element ∷ list_of blank cells c.below) n d) shift
              ∙ sym (get_or-drop (c.under % 8) (list_of blank cells c.below) (left - (c.under % 8 + 1)) d)
              ∙ ap (λ w. get_or w (left - (c.under % 8 + 1)) d) (sym reached_tells.cut);
        }

    pub reached_element : (d : T) → left ≡ 0 → c.element ≡ get_or (list_of blank cells h) i d
    reached_element d over = sym (reached.same d ∙ ap (λ n. get_or (list_of blank cells at) n d) over
        ∙ ap (λ w. get_or w 0 d) next)
