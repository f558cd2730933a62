-- What a look never answers, and what the contract of a store becomes where readings stand behind every list.
use Rattle.std.proofs.Common.{◌≡◌, ℕ, ◌+◌, ◌-◌, ◌<◌, ◌≤◌, min, List, ◌∷◌, ◌++◌, length, get_or, take, ℤ, pos}
use Rattle.std.proofs.Common.{Some, None, Ok, Err, Option, Result, sym, refl, ap, ◌∙◌, ⊎_elim, arith}
use Rattle.std.proofs.Common.{length-append, length-take, get_or-take}
use lib.ListN.{get_or-map}
use Rattle.std.proofs.lemmas.List.{get_or_append_left, get_or-append_right, get_or_default, length-map}
use Rattle.std.proofs.lemmas.Bool.{cases_lt}
use Rattle.store.specs.declared.fault.StoreFault.{StoreFault}
use Rattle.store.specs.declared.fault.StoreFault.TheVariants.{NoList, NoRoom, Beyond}
use Rattle.store.specs.Lists.{Lists, Extended, Looked}
use Rattle.store.proofs.Told.{some_none, some_some, ok_err, cases_option}
use Rattle.values.specs.declared.Value.{Value}
use Rattle.values.specs.declared.Value.TheVariants.{Number}
use Rattle.readings.specs.Behind.{as_values, added, behind, cost_below, Read}

-- look: it takes no room
pub look_has_room : {E : Type 0} (lists : Lists E) (h i : ℕ) → Looked lists h i (Err NoRoom) → ⊥
look_has_room lists h i looked =
    ⊎_elim
    (λ none. let p = looked.unlisted none in let z : ◌≡◌ {A = ℕ} 0 1 = cc in omega arith)
    (λ some. let here = looked.listed some.0 some.1 in
    ⊎_elim
    (λ within. ok_err (here.found within).1 refl)
    (λ past. let p = here.beyond past in let z : ◌≡◌ {A = ℕ} 0 1 = cc in omega arith)
    (cases_lt i (length some.0)))
    (cases_option (lists h))

module _ (rs : List Value) where
  -- added
  pub added_none : (o : Option (List Value)) → added rs o ≡ None → o ≡ None
  added_none None e = refl
  added_none (Some l) e = absurd (some_none refl e)

  pub added_some : (o : Option (List Value)) (m : List Value) → added rs o ≡ Some m → (l : List Value) × (o ≡ Some l)
      × (m ≡ l ++ rs)
  added_some None m e = absurd (some_none e refl)
  added_some (Some l) m e = (l, refl, some_some e refl)

  length_under : (l m : List Value) → m ≡ l ++ rs → length m ≡ length l + length rs
  length_under l m e = ap length e ∙ length-append l rs

  cost_under : (cost : ℕ → ℕ) (l m : List Value) → m ≡ l ++ rs → cost_below rs cost (length m) ≡ cost (length l)
  cost_under cost l m e = let long = length_under l m e in let n : length m - length rs ≡ length l = omega arith in
      ap cost n

  -- extend
  pub extended_behind : (before after : Lists Value) (free free' : ℕ) (cost : ℕ → ℕ) (h : ℕ) (x : Value)
      (r : Result ℕ StoreFault)
      → Extended before after free free' cost h x r → Extended (behind rs before) (behind rs after) free free'
      (cost_below rs cost) h x r
  extended_behind before after free free' cost h x r below = record {
    unlisted = λ none. below.unlisted (added_none (before h) none);
    short = λ m is less.
        let front = added_some (before h) m is in
        below.short front.0 front.1 (omega (arith, cost_under cost front.0 m front.2));
    made = λ m is enough.
        let front = added_some (before h) m is in
        let price = cost_under cost front.0 m front.2 in
        let new = below.made front.0 front.1 (omega arith) in (
          new.0,
          new.1,
          record {
            fresh = ap (added rs) new.2.fresh;
            known = ap (added rs) new.2.known ∙ ap (λ w. Some (x ∷ w)) (sym front.2);
            others = λ k other. ap (added rs) (new.2.others k other);
            paid = omega (arith, new.2.paid);
          },
        );
    refused = λ e is. let same = below.refused e is in (λ k. ap (added rs) (same.0 k), same.1);
  }

  -- look: an element below
  pub looked_ok : (lists : Lists Value) (h i : ℕ) (x : Value) → Looked lists h i (Ok x) → Looked (behind rs lists) h i
      (Ok x)
  looked_ok lists h i x below = record {
    unlisted = λ none. below.unlisted (added_none (lists h) none);
    listed = λ m is.
        let front = added_some (lists h) m is in
        let long = length_under front.0 m front.2 in
        let here = below.listed front.0 front.1 in
        let within : i < length front.0 = ⊎_elim (λ lt. lt) (λ past. absurd (ok_err refl (here.beyond past)))
        (cases_lt i (length front.0)) in
        let it = here.found within in
        record {
          beyond = λ past. absurd (omega arith);
          found = λ _. (
            it.0,
            it.1,
            it.2 ∙ sym (get_or_append_left front.0 rs it.0 i within)
                ∙ ap (λ w. get_or w i it.0) (sym front.2),
          );
        };
  }

  -- look: no list below
  pub looked_no_list : (lists : Lists Value) (h i : ℕ) → Looked lists h i (Err NoList) → Looked (behind rs lists) h i
      (Err NoList)
  looked_no_list lists h i below = record {
    unlisted = λ none. refl;
    listed = λ m is.
        let front = added_some (lists h) m is in
        let here = below.listed front.0 front.1 in
        ⊎_elim
        (λ within. absurd (ok_err (here.found within).1 refl))
        (λ past. let p = here.beyond past in let z : ◌≡◌ {A = ℕ} 0 1 = cc in absurd (omega arith))
        (cases_lt i (length front.0));
  }

  -- look: 33 carries the length below, and it is not above the index
  pub beyond_told : (lists : Lists Value) (h i n : ℕ) → Looked lists h i (Err (Beyond n)) → n ≤ i
  beyond_told lists h i n below =
      ⊎_elim
      (λ none. let p = below.unlisted none in let z : ◌≡◌ {A = ℕ} 0 1 = cc in absurd (omega arith))
      (λ some. let here = below.listed some.0 some.1 in
      ⊎_elim
      (λ within. absurd (ok_err (here.found within).1 refl))
      (λ past. let p = here.beyond past in let same : n ≡ length some.0 = cc in omega arith)
      (cases_lt i (length some.0)))
      (cases_option (lists h))

  -- look: a reading, or 33 with the whole length
  pub looked_beyond : (lists : Lists Value) (h i n : ℕ) (r : Result Value StoreFault)
      → Looked lists h i (Err (Beyond n)) → Read rs n i r → Looked (behind rs lists) h i r
  looked_beyond lists h i n r below read = record {
    unlisted = λ none. let p = below.unlisted (added_none (lists h) none) in let z : ◌≡◌ {A = ℕ} 0 1 = cc in
        absurd (omega arith);
    listed = λ m is.
        let front = added_some (lists h) m is in
        let long = length_under front.0 m front.2 in
        let here = below.listed front.0 front.1 in
        let past : length front.0 ≤ i = ⊎_elim (λ within. absurd (ok_err (here.found within).1 refl)) (λ p. p)
        (cases_lt i (length front.0)) in
        let same : n ≡ length front.0 = let p = here.beyond past in cc in
        let whole : n + length rs ≡ length m = omega arith in
        record {
          beyond = λ far. read.beyond (omega arith) ∙ ap (λ k. Err (Beyond k)) whole;
          found = λ near.
              let it = read.found (omega arith) in
              let place : i - n ≡ i - length front.0 = omega arith in (
                it.0,
                it.1,
                it.2 ∙ ap (λ k. get_or rs k it.0) place
                    ∙ sym (get_or-append_right front.0 rs (length front.0) i it.0 refl past)
                    ∙ ap (λ w. get_or w i it.0) (sym front.2),
              );
        };
  }

-- A reading, out of the numbers that are held.
module _ (numbers : List ℤ) (count n i : ℕ) where
  length_known : length (as_values (take count numbers)) ≡ min count (length numbers)
  length_known = simp (length-map, length-take)

  pub read_number : (z : ℤ) → n ≤ i → i - n < min count (length numbers) → z ≡ get_or numbers (i - n) (pos 0)
      → Read (as_values (take count numbers)) n i (Ok (Number z))
  read_number z past near is =
      let long = length_known in
      let early : i - n < count = omega arith in
      let inside : i - n < length numbers = omega arith in
      let at : get_or (as_values (take count numbers)) (i - n) (Number z) ≡ Number z =
      get_or-map Number (take count numbers) (i - n) z
      ∙ ap Number (get_or-take count numbers (i - n) z early ∙ get_or_default numbers (i - n) z (pos 0) inside
      ∙ sym is) in
      record {
        beyond = λ far. absurd (omega arith);
        found = λ _. (Number z, refl, sym at);
      }

  pub read_beyond : (known : ℕ) → known ≡ min count (length numbers) → n ≤ i → known ≤ i - n
      → Read (as_values (take count numbers)) n i (Err (Beyond (n + known)))
  read_beyond known is past far =
      let long = length_known in
      let same : n + known ≡ n + length (as_values (take count numbers)) = omega arith in
      record {
        beyond = λ _. ap (λ k. Err (Beyond k)) same;
        found = λ near. absurd (omega arith);
      }
