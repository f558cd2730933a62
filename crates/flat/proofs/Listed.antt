-- The lists in slots, and what a further list does to them.
use Rattle.std.proofs.Common.{◌≡◌, ℕ, zero, suc, ◌+◌, ◌-◌, ◌<◌, ◌≤◌, eqb, ltb, leb, ◌≢◌, ◌⊎◌, List, ◌∷◌, length}
use Rattle.std.proofs.Common.{get_or, Some, None, Ok, Option, sym, refl, ap, ◌∙◌, inl, inr, ⊎_elim, add-zero, add-one}
use Rattle.std.proofs.Common.{arith}
use Rattle.std.proofs.lemmas.Bool.{ltb-true, le-leb, lt-leb, lt-ltb, ne_eqb, eq-eqb, cond-true, cond-false, cases_lt}
use Rattle.std.proofs.lemmas.Bool.{cases_eq, cases_Bool}
use Rattle.std.proofs.lemmas.List.{get_or_past, get_or_default}
use Rattle.store.specs.Lists.{Extended, Looked}
use Rattle.store.proofs.Told.{some_none, some_some, ok_err}
use Rattle.flat.specs.declared.slot.Slot.{Slot}
use Rattle.flat.specs.declared.slot.Slot.TheVariants.{Spare, Element, Ends}
use Rattle.flat.specs.declared.span.Span.{Span}
use Rattle.flat.specs.Spans.{element_of, reads, ending, span_of, list_at, lists_of, room_of, cost_of, located, Placed}
use Rattle.flat.specs.Spans.{Spanned}

module _ {T : Type 0} where
  -- ending: only a slot that ends a list has a count, and the elements fit before it
  pub ending_some : (h : ℕ) (s : Slot T) (n : ℕ) → ending h s ≡ Some n → (s ≡ Ends n) × (n < h)
  ending_some h Spare n e = absurd (some_none e refl)
  ending_some h (Element x) n e = absurd (some_none e refl)
  ending_some h (Ends m) n e =
      ⊎_elim
      (λ t. let same : m ≡ n = some_some (cond-true (ltb m h) (Some m) None t) e in (
        ap Ends same,
        omega (arith, ltb-true m h t),
      ))
      (λ f. absurd (some_none e (cond-false (ltb m h) (Some m) None f)))
      (cases_Bool (ltb m h))

  -- span_of, by cases on the handle
  pub span_zero : (slots : List (Slot T)) (used h : ℕ) → h ≡ 0 → span_of slots used h ≡ Some 0
  span_zero slots used h z = cond-true (eqb h 0) _ _ (eq-eqb h 0 z)

  pub span_above : (slots : List (Slot T)) (used h : ℕ) → 0 < h → used < h → span_of slots used h ≡ None
  span_above slots used h p q = let ne : h ≢ 0 = omega arith in cond-false (eqb h 0) _ _ (ne_eqb h 0 ne)
      ∙ cond-false (leb h used) _ _ (lt-leb h used q)

  pub span_below : (slots : List (Slot T)) (used h : ℕ) → 0 < h → h ≤ used → span_of slots used h ≡ ending h
      (get_or slots (h - 1) Spare)
  span_below slots used h p q = let ne : h ≢ 0 = omega arith in cond-false (eqb h 0) _ _ (ne_eqb h 0 ne)
      ∙ cond-true (leb h used) _ _ (le-leb h used q)

  pub span_past : (slots : List (Slot T)) (used h : ℕ) → length slots < h → span_of slots used h ≡ None
  span_past slots used h p =
      ⊎_elim
      (λ above. span_above slots used h (omega arith) above)
      (λ below. span_below slots used h (omega arith) below
      ∙ ap (ending h) (get_or_past slots (h - 1) Spare (omega arith)))
      (cases_lt used h)

  -- span_of: where a handle has a list, its elements lie in used slots
  pub span_some : (slots : List (Slot T)) (used h n : ℕ) → span_of slots used h ≡ Some n
      → ((h ≡ 0) × (n ≡ 0)) ⊎ ((n < h) × (h ≤ used) × (h ≤ length slots))
  span_some slots used h n e =
      ⊎_elim
      (λ z. inl (z, some_some e (span_zero slots used h z)))
      (λ nz. inr (
      let fits : h ≤ used = ⊎_elim (λ above. absurd (some_none e (span_above slots used h (omega arith) above)))
      (λ below. below) (cases_lt used h) in
      let long : h ≤ length slots = ⊎_elim (λ past. absurd (some_none e (span_past slots used h past)))
      (λ in_it. in_it) (cases_lt (length slots) h) in
      let here = ending_some h (get_or slots (h - 1) Spare) n (sym (span_below slots used h (omega arith) fits) ∙ e) in
      (here.1, fits, long)))
      (cases_eq h 0)

-- located: where a list lies says which length it has
pub located_some : (h : ℕ) (o : Option ℕ) (s : Span) → located h o ≡ Some s → (o ≡ Some s.length)
    × (s.begins ≡ h - 1 - s.length)
located_some h None s e = absurd (some_none e refl)
located_some h (Some n) s e = let same = some_some refl e in rw (← same) (refl, refl)

module _ {T : Type 0} (blank : T) where
  -- reads
  pub length_reads : (slots : List (Slot T)) (at n : ℕ) → length (reads blank slots at n) ≡ n
  length_reads slots at zero = refl
  length_reads slots at (suc n) = ap suc (length_reads slots (suc at) n)

  pub getD_reads : (slots : List (Slot T)) (at n i : ℕ) (d : T) → i < n
      → get_or (reads blank slots at n) i d ≡ element_of blank (get_or slots (at + i) Spare)
  getD_reads slots at zero i d h = absurd (omega arith)
  getD_reads slots at (suc n) zero d h = ap (λ k. element_of blank (get_or slots k Spare)) (sym (add-zero at))
  getD_reads slots at (suc n) (suc i) d h =
      let shift : suc at + i ≡ at + suc i = omega arith in
      getD_reads slots (suc at) n i d (omega arith) ∙ ap (λ k. element_of blank (get_or slots k Spare)) shift

  pub reads_same : (a b : List (Slot T)) (p q n : ℕ)
      → ((j : ℕ) → j < n → element_of blank (get_or a (p + j) Spare) ≡ element_of blank (get_or b (q + j) Spare))
      → reads blank a p n ≡ reads blank b q n
  reads_same a b p q zero each = refl
  reads_same a b p q (suc n) each =
      let front : element_of blank (get_or a p Spare) ≡ element_of blank (get_or b q Spare) = simp add-zero at
      (each 0 (omega arith)) in
      let rest : reads blank a (suc p) n ≡ reads blank b (suc q) n =
      reads_same a b (suc p) (suc q) n (λ j h.
      let l : suc p + j ≡ p + suc j = omega arith in
      let r : suc q + j ≡ q + suc j = omega arith in
      ap (λ k. element_of blank (get_or a k Spare)) l ∙ each (suc j) (omega arith)
      ∙ ap (λ k. element_of blank (get_or b k Spare)) (sym r)) in
      ap (λ (x : T). x ∷ reads blank a (suc p) n) front ∙ ap (λ w. element_of blank (get_or b q Spare) ∷ w) rest

  -- lists_of
  pub listed : (slots : List (Slot T)) (used h n : ℕ) → span_of slots used h ≡ Some n
      → lists_of blank slots used h ≡ Some (reads blank slots (h - 1 - n) n)
  listed slots used h n e = ap (list_at blank slots h) e

  pub unlisted : (slots : List (Slot T)) (used h : ℕ) → span_of slots used h ≡ None → lists_of blank slots used h ≡ None
  unlisted slots used h e = ap (list_at blank slots h) e

  pub spanned : (slots : List (Slot T)) (used h : ℕ) (o : Option ℕ) → span_of slots used h ≡ o
      → Spanned (lists_of blank slots used h) (located h o)
  spanned slots used h None is = unlisted slots used h is
  spanned slots used h (Some n) is = (
    reads blank slots (h - 1 - n) n,
    listed slots used h n is,
    length_reads slots (h - 1 - n) n,
  )

  pub found : (slots : List (Slot T)) (used h i : ℕ) (s : Span) (d : Slot T)
      → located h (span_of slots used h) ≡ Some s → i < s.length → s.begins + i < length slots
      → Looked (lists_of blank slots used) h i (Ok (element_of blank (get_or slots (s.begins + i) d)))
  found slots used h i s d at less inside =
      let n = s.length in
      let here = located_some h (span_of slots used h) s at in
      let old = listed slots used h n here.0 in
      let x = element_of blank (get_or slots (s.begins + i) d) in
      let stands : get_or slots (h - 1 - n + i) Spare ≡ get_or slots (s.begins + i) d =
      rw (← here.1) (get_or_default slots (s.begins + i) Spare d inside) in
      record {
        unlisted = λ none. absurd (some_none old none);
        listed = λ l is.
            let same : reads blank slots (h - 1 - n) n ≡ l = some_some old is in
            let long : length l ≡ n = ap length (sym same) ∙ length_reads slots (h - 1 - n) n in
            record {
              beyond = λ past. absurd (omega arith);
              found = λ within. (
                x,
                refl,
                sym (getD_reads slots (h - 1 - n) n i x less ∙ ap (element_of blank) stands)
                    ∙ ap (λ w. get_or w i x) same,
              );
            };
      }

  -- what a further list of n + 1 elements does
  module _ (before after : List (Slot T)) (used h n from : ℕ) (x : T) (e : span_of before used h ≡ Some n)
      (long : length after ≡ length before)
      (room : n + 2 ≤ room_of before used) (source : from ≡ h - (n + 1)) (new : Placed blank before after used from n
      x) where
    -- older handles keep their spans, and no other handle gets one
    span_others : (k : ℕ) → (k ≡ used + (n + 2) → ⊥) → span_of after (used + (n + 2)) k ≡ span_of before used k
    span_others k other =
        ⊎_elim
        (λ z. span_zero after (used + (n + 2)) k z ∙ sym (span_zero before used k z))
        (λ nz. ⊎_elim
        (λ above. ⊎_elim
        (λ past. span_above after (used + (n + 2)) k (omega arith) past)
        (λ here. span_below after (used + (n + 2)) k (omega arith) here ∙ inside k (omega arith) (omega arith) above
        here)
        (cases_lt (used + (n + 2)) k)
        ∙ sym (span_above before used k (omega arith) above))
        (λ below. span_below after (used + (n + 2)) k (omega arith) (omega arith)
        ∙ ap (ending k) (new.kept (k - 1) (omega arith)) ∙ sym (span_below before used k (omega arith) below))
        (cases_lt used k))
        (cases_eq k 0)
      where
        inside : (k : ℕ) → 0 < k → k < used + (n + 2) → used < k → k ≤ used + (n + 2)
            → ending k (get_or after (k - 1) Spare) ≡ None
        inside k p q r s = ⊎_elim
            (λ front. let at : k - 1 ≡ used = omega arith in ap (λ i. ending k (get_or after i Spare)) at
            ∙ ap (ending k) new.first)
            (λ later. let at : k - 1 ≡ used + 1 + (k - used - 2) = omega arith in
            ap (λ i. ending k (get_or after i Spare)) at ∙ ap (ending k) (new.copied (k - used - 2) (omega arith)))
            (cases_eq k (used + 1))

    -- the fresh handle has the new list
    span_fresh : span_of after (used + (n + 2)) (used + (n + 2)) ≡ Some (n + 1)
    span_fresh =
        let at : used + (n + 2) - 1 ≡ used + 1 + n = omega arith in
        let fits : n + 1 < used + (n + 2) = omega arith in
        span_below after (used + (n + 2)) (used + (n + 2)) (omega arith) (omega arith)
        ∙ ap (λ i. ending (used + (n + 2)) (get_or after i Spare)) at
        ∙ ap (ending (used + (n + 2))) new.ended
        ∙ cond-true (ltb (n + 1) (used + (n + 2))) (Some (n + 1)) None (lt-ltb (n + 1) (used + (n + 2)) fits)

    list_fresh : lists_of blank after (used + (n + 2)) (used + (n + 2)) ≡ Some (x ∷ reads blank before (h - 1 - n) n)
    list_fresh =
        let start : used + (n + 2) - 1 - (n + 1) ≡ used = omega arith in
        let old : from ≡ h - 1 - n = omega arith in
        let tail : reads blank after (suc used) n ≡ reads blank before (h - 1 - n) n =
        reads_same after before (suc used) (h - 1 - n) n (λ j less.
        let next : suc used + j ≡ used + 1 + j = omega arith in
        ap (λ i. element_of blank (get_or after i Spare)) next ∙ ap (element_of blank) (new.copied j less)
        ∙ ap (λ i. element_of blank (get_or before (i + j) Spare)) old) in
        listed after (used + (n + 2)) (used + (n + 2)) (n + 1) span_fresh
        ∙ ap (λ i. Some (reads blank after i (n + 1))) start
        ∙ rw add-one (ap (λ (y : T). Some (y ∷ reads blank after (suc used) n)) (ap (element_of blank) new.first)
        ∙ ap (λ w. Some (x ∷ w)) tail)

    -- older lists lie before what was written
    list_others : (k : ℕ) → (k ≡ used + (n + 2) → ⊥) → lists_of blank after (used + (n + 2)) k ≡ lists_of blank before
        used k
    list_others k other = ap (list_at blank after k) (span_others k other) ∙ same (span_of before used k) refl
      where
        same : (o : Option ℕ) → span_of before used k ≡ o → list_at blank after k o ≡ list_at blank before k o
        same None is = refl
        same (Some m) is =
            ap Some (reads_same after before (k - 1 - m) (k - 1 - m) m (λ j less.
            ⊎_elim
            (λ root. absurd (omega arith))
            (λ fits. ap (element_of blank) (new.kept (k - 1 - m + j) (omega arith)))
            (span_some before used k m is)))

    pub extends : Extended (lists_of blank before used) (lists_of blank after (used + (n + 2))) (room_of before used)
        (room_of after (used + (n + 2))) cost_of h x (Ok (used + (n + 2)))
    extends =
        let old = listed before used h n e in
        let size : (l : List T) → lists_of blank before used h ≡ Some l → length l ≡ n = λ l is.
        ap length (sym (some_some old is)) ∙ length_reads before (h - 1 - n) n in
        record {
          unlisted = λ none. absurd (some_none old none);
          short = λ l is less. absurd (omega (arith, size l is));
          made = λ l is enough. (
            used + (n + 2),
            refl,
            record {
              fresh = unlisted before used (used + (n + 2)) (span_above before used (used + (n + 2)) (omega arith)
                  (omega arith));
              known = list_fresh ∙ ap (λ w. Some (x ∷ w)) (some_some old is);
              others = list_others;
              paid = omega (arith, size l is);
            },
          );
          refused = λ f bad. absurd (ok_err refl bad);
        }
