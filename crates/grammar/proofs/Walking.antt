-- Going over tokens, and where that ends in a refusal.
use Rattle.std.proofs.Common.{◌≡◌, ℕ, ◌≤◌, Bool, true, false, cond, ◌&&◌, eqb, List, [], ◌∷◌, ◌++◌, length, pos}
use Rattle.std.proofs.Common.{neg_ℤ, codes, sym, refl, ap, ◌∙◌, subst, ⊎_elim, true≢false, arith}
use mathlib.Core.Option.{Option, some, none}
use Rattle.grammar.specs.declared.Mark.{Mark}
use Rattle.grammar.specs.declared.Mark.TheVariants.{Arrow, Equals, AtMost, Plus, Open, Close}
use Rattle.grammar.specs.Token.{Name, Token, mark, name, numeral, end, is}
use Rattle.grammar.specs.Names.{same}
use Rattle.grammar.specs.Spelling.{letter, word_byte, all, digits, word, number, sign, or_else, token, decimal}
use Rattle.grammar.specs.Reading.{Longest}
use Rattle.grammar.specs.Automaton.{State, go, stuck, is_end, and_then, step, run, in_force}
use Rattle.grammar.specs.Walking.{Stand, Current, Went, Passes, here, over, Unread, Reached, Through, Wrong, unread}
use Rattle.grammar.specs.Walking.{no_sentence, Refuses, Missed, is_name}
use Rattle.grammar.proofs.Completeness.{run-++}

-- ── a name token is its own bytes ──

abbrev bytes : Token → Name
bytes (mark m) = []
bytes (name x) = x
bytes (numeral z) = []
bytes end = []

-- t is no name, or the name w
abbrev Own : Name → Token → Type 0
Own w t = is_name t ≡ true → bytes t ≡ w

own_mark : (b : Bool) (m : Mark) (w : Name) (t : Token) → Own w t → Own w (cond b (mark m) t)
own_mark true m w t h = λ e. absurd (true≢false (sym e))
own_mark false m w t h = h

own_word : (w : Name) → Own w (word w)
own_word w =
    own_mark (same w (codes "fun")) _ w _ (own_mark (same w (codes "let")) _ w _ (own_mark (same w (codes "in")) _ w _
    (own_mark (same w (codes "if")) _ w _ (own_mark (same w (codes "then")) _ w _
    (own_mark (same w (codes "else")) _ w _ (own_mark (same w (codes "true")) _ w _
    (own_mark (same w (codes "false")) _ w (name w) (λ e. refl))))))))

abbrev OwnSome : Name → Option Token → Type 0
OwnSome w none = Unit {0}
OwnSome w (some t) = Own w t

own_if : (b : Bool) (w : Name) (o o' : Option Token) → OwnSome w o → OwnSome w o' → OwnSome w (cond b o o')
own_if true w o o' h k = h
own_if false w o o' h k = k

own_no : (w : Name) (t : Token) → is_name t ≡ false → Own w t
own_no w t h = λ e. absurd (true≢false (sym e ∙ h))

own_number : (c : ℕ) (cs w : Name) → OwnSome w (number c cs)
own_number c cs w =
    own_if (digits (c ∷ cs)) w _ _ (own_no w (numeral (pos (decimal 0 (c ∷ cs)))) refl)
    (own_if (eqb c 45 && digits cs) w _ none (own_no w (numeral (neg_ℤ (pos (decimal 0 cs)))) refl) tt)

own_sign : (w : Name) → OwnSome w (sign w)
own_sign w =
    own_if (same w (codes "->")) w _ _ (own_no w (mark Arrow) refl) (own_if (same w (codes "=")) w _ _
    (own_no w (mark Equals) refl) (own_if (same w (codes "<=")) w _ _ (own_no w (mark AtMost) refl)
    (own_if (same w (codes "+")) w _ _ (own_no w (mark Plus) refl)
    (own_if (same w (codes "(")) w _ _ (own_no w (mark Open) refl) (own_if (same w (codes ")")) w _ none
    (own_no w (mark Close) refl) tt)))))

own_else : (w : Name) (o o' : Option Token) → OwnSome w o → OwnSome w o' → OwnSome w (or_else o o')
own_else w none o' h k = k
own_else w (some t) o' h k = h

own_token : (w : Name) → OwnSome w (token w)
own_token [] = tt
own_token (c ∷ cs) =
    own_if (letter c) (c ∷ cs) _ _ (own_if (all word_byte cs) (c ∷ cs) _ none (own_word (c ∷ cs)) tt)
    (own_else (c ∷ cs) (number c cs) (sign (c ∷ cs)) (own_number c cs (c ∷ cs)) (own_sign (c ∷ cs)))

token_name : (w x : Name) → token w ≡ some (name x) → x ≡ w
token_name w x h = subst (OwnSome w) h (own_token w) refl

-- ── where a reader stands ──

pub went_current : (s : List ℕ) (p q : Stand) → Went s p q → Current s q × (p.stop ≤ q.place)
went_current s p q w =
    let b = w.0.0 in (
      ⊎_elim
          (λ (e : (q.token ≡ end) × (q.place ≡ length s) × (q.stop ≡ q.place)). let r : Current s q = record {
            forward = omega (arith, e.2);
            inside = omega (arith, e.2, b.1);
            some_bytes = λ h. absurd (true≢false (sym (ap is_end e.0) ∙ h));
            named = λ x h. absurd (true≢false (sym (ap is_name (sym e.0 ∙ h))));
            in_range = w.1;
          } in r)
          (λ (l : Longest s q.place q.stop q.token). let r : Current s q = record {
            forward = omega (arith, l.some_bytes);
            inside = l.inside;
            some_bytes = λ h. l.some_bytes;
            named = λ x h. token_name _ x (l.spells ∙ ap some h);
            in_range = w.1;
          } in r)
          w.0.1,
      b.0,
    )

pub passes_current : (s : List ℕ) {p q : Stand} {ts : List Token} → Passes s p ts q → Current s p → Current s q
    × (p.place ≤ q.place)
passes_current s here c = (c, omega arith)
passes_current s (over {p} {q} o w ps) c = let a = went_current s p q w in let r = passes_current s ps a.0 in (
  r.0,
  omega (arith, c.forward, a.1, r.1),
)

pub passes-++ : (s : List ℕ) {p q r : Stand} {ts us : List Token} → Passes s p ts q → Passes s q us r
    → Passes s p (ts ++ us) r
passes-++ s here qs = qs
passes-++ s (over o w ps) qs = over o w (passes-++ s ps qs)

pub through-++ : (s : List ℕ) (p q r : Stand) → Through s p q → Through s q r → Through s p r
through-++ s p q r x y = (x.0 ++ y.0, passes-++ s x.1 y.1)

pub through_one : (s : List ℕ) (p q : Stand) → is_end p.token ≡ false → Went s p q → Through s p q
through_one s p q o w = (p.token ∷ [], over o w here)

pub through_current : (s : List ℕ) (p q : Stand) → Through s p q → Current s p → Current s q × (p.place ≤ q.place)
through_current s p q t c = passes_current s t.1 c

pub passes_one : (s : List ℕ) (p q : Stand) → is_end p.token ≡ false → Went s p q → Passes s p (p.token ∷ []) q
passes_one s p q o w = over o w here

-- ── tokens that are not the end ──

pub mark_on : (m : Mark) (t : Token) → is m t ≡ true → is_end t ≡ false
mark_on m (mark n) h = refl
mark_on m (name x) h = refl
mark_on m (numeral z) h = refl
mark_on m end h = absurd (true≢false (sym h))

pub name_on : (t : Token) → is_name t ≡ true → is_end t ≡ false
name_on (mark n) h = refl
name_on (name x) h = refl
name_on (numeral z) h = refl
name_on end h = absurd (true≢false (sym h))

-- ── reaching a state ──

module _ (book : List Name) (s : List ℕ) where
  pub reached_here : (p : Stand) (a : State) → Reached book s p a p a
  reached_here p a = ([], here, refl)

  pub reached_over : (p q : Stand) (a b : State) → is_end p.token ≡ false → Went s p q
      → step in_force book a p.token ≡ go b → Reached book s p a q b
  reached_over p q a b o w h = (p.token ∷ [], passes_one s p q o w, ap (λ o. and_then o go) h)

  pub reached-++ : (p q r : Stand) (a b c : State) → Reached book s p a q b → Reached book s q b r c
      → Reached book s p a r c
  reached-++ p q r a b c x y = (
    x.0 ++ y.0,
    passes-++ s x.1 y.1,
    run-++ in_force book x.0 y.0 a
        ∙ ap (λ o. and_then o (λ z. run in_force book z y.0)) x.2 ∙ y.2,
  )

  pub reached_refuses : (p q : Stand) (a b : State) (n place : ℕ) → Reached book s p a q b
      → Refuses book s q b n place → Refuses book s p a n place
  reached_refuses p q a b n place x y = let z = reached-++ p q y.1 a b y.2 x (y.0, y.3, y.4) in (
    z.0,
    y.1,
    y.2,
    z.1,
    z.2,
    y.5,
  )

  pub reached_wrong : (p q : Stand) (a b : State) (n place : ℕ) → Reached book s p a q b → Wrong book s q b n place
      → Refuses book s p a n place
  reached_wrong p q a b n place x y = (x.0, q, b, x.1, x.2, y)

  -- ── where a token was asked for ──

  pub asked_over : (asked : Token → Bool) (p : Stand) (a b : State) → step in_force book a p.token ≡ cond
      (asked p.token) (go b) stuck → asked p.token ≡ true → step in_force book a p.token ≡ go b
  asked_over asked p a b h e = h ∙ ap (λ x. cond x (go b) stuck) e

  pub missed_wrong : (asked : Token → Bool) → ((t : Token) → asked t ≡ true → is_end t ≡ false)
      → (p : Stand) (a b : State) (n place : ℕ) → step in_force book a p.token ≡ cond (asked p.token) (go b) stuck
      → Missed asked s p n place → Wrong book s p a n place
  missed_wrong asked on p a b n place h m =
      ⊎_elim
      (λ (x : (asked p.token ≡ false) × (n ≡ 55) × (place ≡ p.place)).
      subst (λ i. Wrong book s p a i place) (sym x.1) (subst (Wrong book s p a 55) (sym x.2)
      (no_sentence (h ∙ ap (λ y. cond y (go b) stuck) x.0))))
      (λ (x : (asked p.token ≡ true) × Unread s p.stop n place). unread (on p.token x.0)
      (asked_over asked p a b h x.0) x.1)
      m

  pub unread_refuses : (p : Stand) (a b : State) (n place : ℕ) → is_end p.token ≡ false
      → step in_force book a p.token ≡ go b → Unread s p.stop n place → Refuses book s p a n place
  unread_refuses p a b n place o h u = ([], p, a, here, refl, unread o h u)
