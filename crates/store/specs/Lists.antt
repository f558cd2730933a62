-- What the calls of a store answer and leave, on the lists that its handles have.
--
-- A `Lists` gives each handle its list, or none. `free` is the free room and `cost`
-- the price of putting an element before a list of a given length.
use Rattle.std.specs.Prelude.{◌≡◌, ℕ, ◌+◌, ◌<◌, ◌≤◌, List, ◌∷◌, length, Some, None, Ok, Err, Option, Result, ◌≢◌}
use Rattle.std.specs.Prelude.{slice_index_or}
use Rattle.store.specs.declared.fault.StoreFault.{StoreFault}
use Rattle.store.specs.declared.fault.StoreFault.TheVariants.{NoList, NoRoom, Beyond}

abbrev pub Lists : Type 0 → Type 0
Lists E = ℕ → Option (List E)

-- two stores that give the same lists to the same handles
abbrev pub Same : {E : Type 0} → Lists E → Lists E → Type 0
Same before after = (h : ℕ) → after h ≡ before h

-- what holds of a store at all times
pub record Sound {E : Type 0} (lists : Lists E) (base : List E) (whole free : ℕ) (cost : ℕ → ℕ) : Type 0 where
  pub root : lists 0 ≡ Some base
  pub bounded : whole ≤ 65535
  pub within : free ≤ whole
  pub charged : (n : ℕ) → 1 ≤ cost n

-- only handle 0 has a list, and all room is free
pub record Cleared {E : Type 0} (lists : Lists E) (base : List E) (whole free : ℕ) : Type 0 where
  pub root : lists 0 ≡ Some base
  pub alone : (h : ℕ) → 0 < h → lists h ≡ None
  pub unspent : free ≡ whole

-- handle k, which had no list, now has x before the list l; this was paid for, and all else stays
pub record Made {E : Type 0} (before after : Lists E) (free free' : ℕ) (cost : ℕ → ℕ) (l : List E) (x : E)
    (k : ℕ) : Type 0 where
  pub fresh : before k ≡ None
  pub known : after k ≡ Some (x ∷ l)
  pub others : (h : ℕ) → (h ≢ k) → after h ≡ before h
  pub paid : free' + cost (length l) ≡ free

-- the answer of `extend` at handle h and element x, and what it leaves
pub record Extended {E : Type 0} (before after : Lists E) (free free' : ℕ) (cost : ℕ → ℕ) (h : ℕ) (x : E)
    (r : Result ℕ StoreFault) : Type 0 where
  pub unlisted : before h ≡ None → r ≡ Err NoList
  pub short : (l : List E) → before h ≡ Some l → free < cost (length l) → r ≡ Err NoRoom
  pub made : (l : List E) → before h ≡ Some l → cost (length l) ≤ free → (k : ℕ) × (r ≡ Ok k)
      × Made before after free free' cost l x k
  pub refused : (e : StoreFault) → r ≡ Err e → Same before after × (free' ≡ free)

-- the answer of `look` at an index of a list
pub record Found {E : Type 0} (l : List E) (i : ℕ) (r : Result E StoreFault) : Type 0 where
  pub beyond : length l ≤ i → r ≡ Err (Beyond (length l))
  pub found : i < length l → (x : E) × (r ≡ Ok x) × (x ≡ slice_index_or l i x)

-- the answer of `look` at handle h and index i
pub record Looked {E : Type 0} (lists : Lists E) (h i : ℕ) (r : Result E StoreFault) : Type 0 where
  pub unlisted : lists h ≡ None → r ≡ Err NoList
  pub listed : (l : List E) → lists h ≡ Some l → Found l i r
