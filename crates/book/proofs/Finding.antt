-- Looking a name up, one name after another.
use Rattle.std.proofs.Common.{◌≡◌, ℕ, suc, ◌+◌, ◌<◌, ◌≤◌, Bool, true, false, cond, List, [], ◌∷◌, ◌++◌, map, length}
use Rattle.std.proofs.Common.{get_or, drop, sym, refl, ap, ◌∙◌, subst, arith}
use Rattle.std.proofs.Common.{zero, Some, None}
use Rattle.std.proofs.Common.{Option as Index}
use mathlib.Core.Option.{Option, some, none}
use Rattle.std.specs.List.{AllWithin, HoldsAt}
use Rattle.std.specs.Option.{MatchOption}
use Rattle.std.proofs.lemmas.List.{get_or_default}
use Rattle.book.specs.Books.{Found}
use Rattle.std.proofs.lemmas.List.{drop-map, drop_more, drop_all}
use Rattle.grammar.specs.Names.{same, next, distance}
use Rattle.grammar.specs.Token.{Name}

-- a distance, past so many names
abbrev pub later : ℕ → Option ℕ → Option ℕ
later n none = none
later n (some d) = some (n + d)

pub later_next : (n : ℕ) (o : Option ℕ) → later n (next o) ≡ later (n + 1) o
later_next n none = refl
later_next n (some d) = let e : n + suc d ≡ n + 1 + d = omega arith in ap some e

pub later_zero : (o : Option ℕ) → later 0 o ≡ o
later_zero none = refl
later_zero (some d) = let e : 0 + d ≡ d = omega arith in ap some e

-- one name that is another
pub distance_more : (n : ℕ) (y : Name) (ys : List Name) (x : Name) → same x y ≡ false
    → later n (distance (y ∷ ys) x) ≡ later (n + 1) (distance ys x)
distance_more n y ys x h = ap (λ b. later n (cond b (some 0) (next (distance ys x)))) h ∙ later_next n (distance ys x)

pub distance_here : (n : ℕ) (y : Name) (ys : List Name) (x : Name) → same x y ≡ true
    → later n (distance (y ∷ ys) x) ≡ some n
distance_here n y ys x h = let e : n + 0 ≡ n = omega arith in
    ap (λ b. later n (cond b (some 0) (next (distance ys x)))) h ∙ ap some e

-- ── going through a list from its front ──

module _ {X : Type 0} (f : X → Name) (xs : List X) (x : Name) (i : ℕ) where
  head : (y : X) → i < length xs → y ≡ get_or xs i y → distance (map f xs) x ≡ later i
      (distance (drop i (map f xs)) x) → distance (map f xs) x ≡ later i (distance (f y ∷ map f (drop (i + 1) xs)) x)
  head y h e inv =
      inv ∙ ap (λ l. later i (distance l x)) (drop-map f i xs ∙ ap (map f) (drop_more xs i y h))
      ∙ ap (λ z. later i (distance (f z ∷ map f (drop (i + 1) xs)) x)) (sym e)

  pub look_here : (y : X) → i < length xs → y ≡ get_or xs i y → same x (f y) ≡ true → distance (map f xs) x ≡ later i
      (distance (drop i (map f xs)) x) → distance (map f xs) x ≡ some i
  look_here y h e s inv = head y h e inv ∙ distance_here i (f y) (map f (drop (i + 1) xs)) x s

  pub look_on : (y : X) → i < length xs → y ≡ get_or xs i y → same x (f y) ≡ false → distance (map f xs) x ≡ later i
      (distance (drop i (map f xs)) x) → distance (map f xs) x ≡ later (i + 1) (distance (drop (i + 1) (map f xs)) x)
  look_on y h e s inv = head y h e inv ∙ distance_more i (f y) (map f (drop (i + 1) xs)) x s
      ∙ ap (λ l. later (i + 1) (distance l x)) (sym (drop-map f (i + 1) xs))

  pub look_none : length xs ≤ i → distance (map f xs) x ≡ later i (distance (drop i (map f xs)) x)
      → distance (map f xs) x ≡ none
  look_none h inv = inv ∙ ap (λ l. later i (distance l x)) (drop-map f i xs ∙ ap (map f) (drop_all i xs h))

-- ── the first that is called so ──

module _ {X : Type 0} (f : X → Name) (xs : List X) (x : Name) (d : X) where
  passed : (n : ℕ) → n ≤ length xs → AllWithin (λ y. same x (f y) ≡ false) xs 0 n → distance (map f xs) x ≡ later n
      (distance (drop n (map f xs)) x)
  passed zero le all = sym (later_zero (distance (map f xs) x))
  passed (suc n) le all =
      let here : n < length xs = omega arith in
      let before = passed n (omega arith) (λ k e low high. all k e low (omega arith)) in
      let step = look_on f xs x n (get_or xs n d) here (get_or_default xs n d (get_or xs n d) here)
      (all n d (omega arith) (omega arith)) before in
      let e : n + 1 ≡ suc n = omega arith in
      subst (λ k. distance (map f xs) x ≡ later k (distance (drop k (map f xs)) x)) e step

  -- as a search for it tells
  pub found_first : (r : Index ℕ) → MatchOption r (AllWithin (λ y. same x (f y) ≡ false) xs 0 (length xs))
      (λ i. (i < length xs) × HoldsAt (λ y. same x (f y) ≡ true) xs i × AllWithin (λ y. same x (f y) ≡ false) xs 0 i)
      → Found (map f xs) x r
  found_first (Some i) h = look_here f xs x i (get_or xs i d) h.0 (get_or_default xs i d (get_or xs i d) h.0) (h.1 d)
      (passed i (omega (arith, h.0)) h.2)
  found_first None h = look_none f xs x (length xs) (omega arith) (passed (length xs) (omega arith) h)

-- ── one list behind another ──

next_later : (n : ℕ) (o : Option ℕ) → next (later n o) ≡ later (suc n) o
next_later n none = refl
next_later n (some d) = let e : suc (n + d) ≡ suc n + d = omega arith in ap some e

behind : (xs ys : List Name) (x : Name) → Option ℕ → Option ℕ
behind xs ys x none = later (length xs) (distance ys x)
behind xs ys x (some d) = some d

behind_next : (y : Name) (xs ys : List Name) (x : Name) (o : Option ℕ) → next (behind xs ys x o) ≡ behind
    (y ∷ xs) ys x (next o)
unfolding behind
behind_next y xs ys x none = next_later (length xs) (distance ys x)
behind_next y xs ys x (some d) = refl

front_or_behind : (b : Bool) (y : Name) (xs ys : List Name) (x : Name) (o : Option ℕ)
    → cond b (some 0) (next (behind xs ys x o)) ≡ behind (y ∷ xs) ys x (cond b (some 0) (next o))
unfolding behind
front_or_behind true y xs ys x o = refl
front_or_behind false y xs ys x o = behind_next y xs ys x o

distance-++ : (xs ys : List Name) (x : Name) → distance (xs ++ ys) x ≡ behind xs ys x (distance xs x)
unfolding behind
distance-++ [] ys x = sym (later_zero (distance ys x))
distance-++ (y ∷ xs) ys x = ap (λ o. cond (same x y) (some 0) (next o)) (distance-++ xs ys x)
    ∙ front_or_behind (same x y) y xs ys x (distance xs x)

pub distance_front : (xs ys : List Name) (x : Name) (d : ℕ) → distance xs x ≡ some d → distance (xs ++ ys) x ≡ some d
unfolding behind
distance_front xs ys x d h = distance-++ xs ys x ∙ ap (behind xs ys x) h

pub distance_back : (xs ys : List Name) (x : Name) → distance xs x ≡ none → distance (xs ++ ys) x ≡ later (length xs)
    (distance ys x)
unfolding behind
distance_back xs ys x h = distance-++ xs ys x ∙ ap (behind xs ys x) h

abbrev Below : ℕ → Option ℕ → Type 0
Below n none = Unit {0}
Below n (some d) = d < n

distance_below : (xs : List Name) (x : Name) → Below (length xs) (distance xs x)
distance_below [] x = tt
distance_below (y ∷ xs) x = by (same x y) (distance xs x) (distance_below xs x)
  where
    by : (b : Bool) (o : Option ℕ) → Below (length xs) o → Below (suc (length xs)) (cond b (some 0) (next o))
    by true o h = omega arith
    by false none h = tt
    by false (some d) h = omega arith

pub distance-< : (xs : List Name) (x : Name) (d : ℕ) → distance xs x ≡ some d → d < length xs
distance-< xs x d h = subst (Below (length xs)) h (distance_below xs x)
