-- The lists that slots hold. A list's elements stand side by side, and right behind them a slot
-- with their count: handle h names the slot h - 1, which ends its list. Handle 0 has the empty list.
use Rattle.std.specs.Prelude.{◌≡◌, ℕ, zero, suc, ◌+◌, ◌-◌, ◌<◌, cond, List, [], ◌∷◌, length, replicate, Some, None}
use Rattle.std.specs.Prelude.{Ok, Option, ◌==◌, nat_le, nat_lt, slice_index_or}
use Rattle.store.specs.Lists.{Cleared, Extended}
use Rattle.store.specs.Room.{counted}
use Rattle.flat.specs.declared.slot.Slot.{Slot}
use Rattle.flat.specs.declared.span.Span.{Span}
use Rattle.flat.specs.declared.slot.Slot.TheVariants.{Spare, Element, Ends}

module _ {T : Type 0} where
  abbrev pub spares : List (Slot T) → List (Slot T)
  spares slots = replicate (length slots) Spare

  -- a slot without an element reads as the blank
  abbrev pub element_of : T → Slot T → T
  element_of blank Spare = blank
  element_of blank (Element x) = x
  element_of blank (Ends n) = blank

  -- n elements from slot `at` on
  abbrev pub reads : T → List (Slot T) → ℕ → ℕ → List T
  reads blank slots at zero = []
  reads blank slots at (suc n) = element_of blank (slice_index_or slots at Spare) ∷ reads blank slots (suc at) n

  -- the count in a slot that ends a list; the elements have to fit before it
  abbrev pub ending : ℕ → Slot T → Option ℕ
  ending h Spare = None
  ending h (Element x) = None
  ending h (Ends n) = cond (nat_lt n h) (Some n) None

  -- the length of the list of handle h, if it has one
  abbrev pub span_of : List (Slot T) → ℕ → ℕ → Option ℕ
  span_of slots used h = cond (h == 0) (Some 0) (cond (nat_le h used) (ending h (slice_index_or slots (h - 1) Spare))
      None)

  abbrev pub list_at : T → List (Slot T) → ℕ → Option ℕ → Option (List T)
  list_at blank slots h (Some n) = Some (reads blank slots (h - 1 - n) n)
  list_at blank slots h None = None

  abbrev pub lists_of : T → List (Slot T) → ℕ → ℕ → Option (List T)
  lists_of blank slots used h = list_at blank slots h (span_of slots used h)

  abbrev pub whole_of : List (Slot T) → ℕ
  whole_of slots = counted (length slots)

  abbrev pub room_of : List (Slot T) → ℕ → ℕ
  room_of slots used = whole_of slots - used

-- where the list of handle h lies, given its length
abbrev pub located : ℕ → Option ℕ → Option Span
located h None = None
located h (Some n) = Some (record { begins = h - 1 - n; length = n })

-- a list, told by its length
abbrev pub Spanned : {T : Type 0} → Option (List T) → Option Span → Type 0
Spanned list None = list ≡ None
Spanned {T} list (Some s) = (l : List T) × (list ≡ Some l) × (length l ≡ s.length)

-- what a new list writes from slot `start` on: x, the n elements that stand from slot `from` on,
-- and the slot that ends the list; nothing before it changes
pub record Placed {T : Type 0} (blank : T) (before after : List (Slot T)) (start from n : ℕ) (x : T) : Type 0 where
  pub kept : (k : ℕ) → k < start → slice_index_or after k Spare ≡ slice_index_or before k Spare
  pub first : slice_index_or after start Spare ≡ Element x
  pub copied : (j : ℕ) → j < n → slice_index_or after (start + 1 + j) Spare ≡ Element
      (element_of blank (slice_index_or before (from + j) Spare))
  pub ended : slice_index_or after (start + 1 + n) Spare ≡ Ends (n + 1)

-- the elements, the new one, and the slot that ends the list
abbrev pub cost_of : ℕ → ℕ
cost_of n = n + 2

module _ {T : Type 0} where
  -- as after `clear`, with the empty base list
  abbrev pub New : T → List (Slot T) → ℕ → Type 0
  New blank slots used = Cleared (lists_of blank slots used) [] (whole_of slots) (room_of slots used)

  -- one list more, at its cost, which puts x before the n elements of handle h
  abbrev pub Pushed : T → List (Slot T) → List (Slot T) → ℕ → ℕ → ℕ → T → Type 0
  Pushed blank before after used h n x =
      let used' = used + cost_of n in
      Extended (lists_of blank before used) (lists_of blank after used') (room_of before used) (room_of after used')
      cost_of h x (Ok used')
