-- The lists that cells hold: handle h names cell h - 1, and a cell's list is its element
-- before the list of the handle below it. Handle 0 has the empty list.
use Rattle.std.specs.Prelude.{◌≡◌, ℕ, zero, suc, ◌+◌, ◌-◌, ◌%◌, ◌≤◌, min, cond, List, [], ◌∷◌, length, drop}
use Rattle.std.specs.Prelude.{replicate, Some, None, Ok, Option, nat_le, nat_lt, slice_index_or}
use Rattle.store.specs.Lists.{Cleared, Extended}
use Rattle.store.specs.Room.{counted}
use Rattle.linked.specs.declared.cell.Cell.{Cell}

module _ {T : Type 0} where
  abbrev pub blank_cell : T → Cell T
  blank_cell blank = record { element = blank; below = 0; skip = 0; under = 0 }

  -- as many cells as these, with the blank in each
  abbrev pub blanks : T → List (Cell T) → List (Cell T)
  blanks blank cells = replicate (length cells) (blank_cell blank)

  abbrev pub cell_at : T → List (Cell T) → ℕ → Cell T
  cell_at blank cells i = slice_index_or cells i (blank_cell blank)

  -- where the list of handle h goes on: a cell that does not point down ends its list
  abbrev pub lower : ℕ → Cell T → ℕ
  lower h c = cond (nat_lt c.below h) c.below 0

  -- the list of handle h, in at most `fuel` cells; h of them always suffice
  abbrev pub walk : T → List (Cell T) → ℕ → ℕ → List T
  walk blank cells zero h = []
  walk blank cells (suc fuel) zero = []
  walk blank cells (suc fuel) (suc i) = (cell_at blank cells i).element ∷ walk blank cells fuel
      (lower (suc i) (cell_at blank cells i))

  abbrev pub list_of : T → List (Cell T) → ℕ → List T
  list_of blank cells h = walk blank cells h h

  -- handles 0 to `made` have a list
  abbrev pub lists_of : T → List (Cell T) → ℕ → ℕ → Option (List T)
  lists_of blank cells made h = cond (nat_le h (min made (length cells))) (Some (list_of blank cells h)) None

  abbrev pub whole_of : List (Cell T) → ℕ
  whole_of cells = counted (length cells)

  abbrev pub room_of : List (Cell T) → ℕ → ℕ
  room_of cells made = whole_of cells - made

  -- what a cell behind i others tells of its list: both its handles are lower; so many elements stand under its own;
  -- and these, cut to a multiple of 8, are the list of the second handle
  pub record Tells (blank : T) (cells : List (Cell T)) (i : ℕ) (c : Cell T) : Type 0 where
    pub down : c.below ≤ i
    pub far_down : c.skip ≤ i
    pub counted : c.under ≡ length (list_of blank cells c.below)
    pub cut : list_of blank cells c.skip ≡ drop (c.under % 8) (list_of blank cells c.below)

  -- every cell tells the truth, a blank one too
  abbrev pub Told : T → List (Cell T) → Type 0
  Told blank cells = (i : ℕ) → Tells blank cells i (cell_at blank cells i)

  -- the cells from `made` on are blank
  abbrev pub Spare : T → List (Cell T) → ℕ → Type 0
  Spare blank cells made = (i : ℕ) → made ≤ i → cell_at blank cells i ≡ blank_cell blank

  -- as after `clear`, with the empty base list
  abbrev pub New : T → List (Cell T) → ℕ → Type 0
  New blank cells made = Cleared (lists_of blank cells made) [] (whole_of cells) (room_of cells made)

  -- one cell more, at a cost of 1, which puts x before the list of handle h
  abbrev pub Pushed : T → List (Cell T) → List (Cell T) → ℕ → ℕ → T → Type 0
  Pushed blank before after made h x =
      Extended (lists_of blank before made) (lists_of blank after (made + 1)) (room_of before made)
      (room_of after (made + 1)) (λ _. 1) h x (Ok (made + 1))

  -- the cell that puts x before the list of handle h, behind i others
  pub record Heads (blank : T) (cells : List (Cell T)) (i h : ℕ) (x : T) (c : Cell T) : Type 0 where
    pub element : c.element ≡ x
    pub below : c.below ≡ h
    pub tells : Tells blank cells i c
