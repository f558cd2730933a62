-- Copying elements to slots further on.
use Rattle.std.proofs.Common.{◌≡◌, ℕ, ◌+◌, ◌<◌, ◌≤◌, ◌≢◌, List, length, get_or, set, ap, ◌∙◌, arith, get_or-set_other}
use Rattle.std.proofs.Common.{get_or-set_same, below_more}
use Rattle.std.proofs.lemmas.List.{get_or_read}
use Rattle.flat.specs.declared.slot.Slot.{Slot}
use Rattle.flat.specs.declared.slot.Slot.TheVariants.{Spare, Element, Ends}
use Rattle.flat.specs.Spans.{element_of, Placed}

module _ {T : Type 0} (blank : T) where
  -- one element more, s, which reads as x
  pub copy_more : (slots before : List (Slot T)) (from to n j : ℕ) (s : Slot T) (x : T) → from + n ≤ to
      → to + n ≤ length slots → j < n
      → x ≡ element_of blank s → s ≡ get_or slots (from + j) s
      → ((k : ℕ) → k < to → get_or slots k Spare ≡ get_or before k Spare)
      → ((i : ℕ) → i < j → get_or slots (to + i) Spare ≡ Element (element_of blank (get_or before (from + i) Spare)))
      → ((k : ℕ) → k < to → get_or (set slots (to + j) (Element x)) k Spare ≡ get_or before k Spare)
      × ((i : ℕ) → i < j + 1 → get_or (set slots (to + j) (Element x)) (to + i) Spare ≡ Element
      (element_of blank (get_or before (from + i) Spare)))
  copy_more slots before from to n j s x ahead within less is read kept copied =
      let inside : to + j < length slots = omega arith in
      let source : from + j < length slots = omega arith in
      let reads : s ≡ get_or before (from + j) Spare = get_or_read slots (from + j) s source read Spare
      ∙ kept (from + j) (omega arith) in (
        λ k h. let ne : k ≢ to + j = omega arith in get_or-set_other slots (to + j) k (Element x) Spare ne ∙ kept k h,
        below_more (λ i. get_or (set slots (to + j) (Element x)) (to + i) Spare ≡ Element
            (element_of blank (get_or before (from + i) Spare))) j
            (λ i h. let ne : to + i ≢ to + j = omega arith in get_or-set_other slots (to + j) (to + i)
            (Element x) Spare ne ∙ copied i h)
            (get_or-set_same slots (to + j) (Element x) Spare inside ∙ ap Element (is ∙ ap (element_of blank) reads)),
      )

  -- the element in front, the copies, and then the slot that ends the list
  pub placed : (before after : List (Slot T)) (start from n : ℕ) (x : T) → from + n ≤ start
      → start + (n + 2) ≤ length before → length after ≡ length before
      → ((k : ℕ) → k < start + 1 → get_or after k Spare ≡ get_or (set before start (Element x)) k Spare)
      → ((j : ℕ) → j < n → get_or after (start + 1 + j) Spare ≡ Element
      (element_of blank (get_or (set before start (Element x)) (from + j) Spare)))
      → Placed blank before (set after (start + 1 + n) (Ends (n + 1))) start from n x
  placed before after start from n x ahead within long kept copied =
      let inside : start < length before = omega arith in
      let last : start + 1 + n < length after = omega arith in
      record {
        kept = λ k h.
            let ne : k ≢ start + 1 + n = omega arith in
            let ne' : k ≢ start = omega arith in
            get_or-set_other after (start + 1 + n) k (Ends (n + 1)) Spare ne ∙ kept k (omega arith)
            ∙ get_or-set_other before start k (Element x) Spare ne';
        first =
            let ne : start ≢ start + 1 + n = omega arith in
            get_or-set_other after (start + 1 + n) start (Ends (n + 1)) Spare ne ∙ kept start (omega arith)
            ∙ get_or-set_same before start (Element x) Spare inside;
        copied = λ j h.
            let ne : start + 1 + j ≢ start + 1 + n = omega arith in
            let ne' : from + j ≢ start = omega arith in
            get_or-set_other after (start + 1 + n) (start + 1 + j) (Ends (n + 1)) Spare ne ∙ copied j h
            ∙ ap (λ s. Element (element_of blank s)) (get_or-set_other before start (from + j) (Element x) Spare
            ne');
        ended = get_or-set_same after (start + 1 + n) (Ends (n + 1)) Spare last;
      }
