-- Looking a name up among the open ones, from the newest.
use Rattle.std.proofs.Common.{◌≡◌, ℕ, suc, ◌+◌, Bool, true, false, cond, List, ◌++◌, length, map, reverse, nat_lt}
use Rattle.std.proofs.Common.{Some, None, sym, refl, ap, ◌∙◌, subst, arith}
use Rattle.std.proofs.Common.{Option as Index}
use mathlib.Core.Option.{Option, some, none}
use borrow.Author.Tests.{true-ltb, false-ltb}
use Rattle.std.specs.List.{position, position_or_len}
use Rattle.std.specs.Option.{MatchOption}
use Rattle.std.proofs.lemmas.List.{length-map, length-reverse}
use Rattle.std.proofs.lemmas.List.Recursion.{is_position_or_len}
use Rattle.grammar.specs.Names.{same, next, distance}
use Rattle.grammar.specs.Token.{Name}
use Rattle.book.specs.Books.{Found}
use Rattle.book.proofs.Finding.{later, distance_front, distance_back, distance-<}
use Rattle.text.specs.Scopes.{spelled, open_names, Restored}
use Rattle.text.specs.declared.scope.Scope.{Scope}

-- ── the first name that is another ──

abbrev or_all : ℕ → Option ℕ → ℕ
or_all n none = n
or_all n (some d) = d

or_all_next : (b : Bool) (n : ℕ) (o : Option ℕ) → or_all (suc n) (cond b (some 0) (next o)) ≡ cond b 0 (1 + or_all n o)
or_all_next true n o = refl
or_all_next false n none = omega arith
or_all_next false n (some d) = omega arith

module _ {X : Type 0} (f : X → Name) (x : Name) where
  counted : (xs : List X) → or_all (length xs) (distance (map f xs) x) ≡ position_or_len (λ y. same x (f y)) xs
  counted = is_position_or_len (λ l. or_all (length l) (distance (map f l) x)) (λ y. same x (f y)) refl
      (λ y ys. or_all_next (same x (f y)) (length ys) (distance (map f ys) x))

  found_first : (xs : List X) → Found (map f xs) x (position (λ y. same x (f y)) xs)
  found_first xs = by (distance (map f xs) x) refl (nat_lt at (length xs)) refl
    where
      at : ℕ
      at = position_or_len (λ y. same x (f y)) xs

      here : (o : Option ℕ) → distance (map f xs) x ≡ o → at ≡ or_all (length xs) o
      here o e = sym (counted xs) ∙ ap (or_all (length xs)) e

      by : (o : Option ℕ) → distance (map f xs) x ≡ o → (b : Bool) → nat_lt at (length xs) ≡ b
          → Found (map f xs) x (cond b (Some at) None)
      by none e true h = absurd (omega (arith, here none e, true-ltb at (length xs) (sym h)))
      by none e false h = e
      by (some d) e true h = e ∙ ap some (sym (here (some d) e))
      by (some d) e false h = absurd (omega (
        arith,
        here (some d) e,
        false-ltb at (length xs) (sym h),
        distance-< (map f xs) x d e,
        length-map xs f,
      ))

-- ── names that open and close ──

pub first_open : (a : Scope) (x : Name)
    → Found (open_names a) x (position (λ y. same x (spelled y)) (reverse a.names.items))
first_open a x = found_first spelled x (reverse a.names.items)

-- a name that is looked up among the open ones first, and behind them
pub behind_open : (xs ys : List Name) (x : Name) (n : ℕ) (P : Type 0) (o r : Index ℕ) → n ≡ length xs → Found xs x o
    → MatchOption o P (λ d. r ≡ Some d) → (P → (y : Index ℕ) × Found ys x y
    × MatchOption y (r ≡ None) (λ d. r ≡ Some (n + d))) → Found (xs ++ ys) x r
behind_open xs ys x n P (Some d) r e f h late = subst (Found (xs ++ ys) x) (sym h) (distance_front xs ys x d f)
behind_open xs ys x n P None r e f h late = let l = late h in by l.0 l.1 l.2
  where
    by : (y : Index ℕ) → Found ys x y → MatchOption y (r ≡ None) (λ d. r ≡ Some (n + d)) → Found (xs ++ ys) x r
    by None g m = subst (Found (xs ++ ys) x) (sym m) (distance_back xs ys x f ∙ ap (later (length xs)) g)
    by (Some d) g m = subst (Found (xs ++ ys) x) (sym m) (distance_back xs ys x f ∙ ap (later (length xs)) g
        ∙ ap (λ k. some (k + d)) (sym e))

pub length_open : (a : Scope) → length (open_names a) ≡ length a.names.items
length_open a = length-map (reverse a.names.items) spelled ∙ length-reverse a.names.items

pub restored_names : (a b : Scope) → Restored a b → open_names b ≡ open_names a
restored_names a b r = ap (λ l. map spelled (reverse l)) r

-- a name that is looked up among the names of a scope first, and behind them
pub behind_scope : (a : Scope) (ys : List Name) (x : Name) (n : ℕ) (P : Type 0) (o r : Index ℕ)
    → n ≡ length a.names.items → o ≡ position (λ y. same x (spelled y)) (reverse a.names.items)
    → MatchOption o P (λ d. r ≡ Some d) → (P → (y : Index ℕ) × Found ys x y
    × MatchOption y (r ≡ None) (λ d. r ≡ Some (n + d))) → Found (open_names a ++ ys) x r
behind_scope a ys x n P o r long first h late =
    behind_open (open_names a) ys x n P o r (long ∙ sym (length_open a)) (subst (Found (open_names a) x) (sym first)
    (first_open a x)) h late

-- what is found stays so in a narrower number
pub found_narrowed : (xs : List Name) (x : Name) (P : Type 0) (Q : ℕ → Type 0) (o r : Index ℕ) → Found xs x o
    → MatchOption o P Q → (P → r ≡ None) → ((d : ℕ) → Q d → r ≡ Some d) → Found xs x r
found_narrowed xs x P Q None r f h absent made = subst (Found xs x) (sym (absent h)) f
found_narrowed xs x P Q (Some d) r f h absent made = subst (Found xs x) (sym (made d h)) f
