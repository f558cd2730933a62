-- The laws of judging: the automaton goes on exactly as long as the tokens begin a sentence, it is at
-- a loss over a name exactly where that name is not in force, and what it accepts is the one tree.
--
use Rattle.std.proofs.Common.{◌≡◌, ℕ, Bool, true, false, cond, List, [], ◌∷◌, ◌++◌, sym, refl, ap, ◌∙◌, true≢false}
use mathlib.Core.Option.{Option, some, none}
use Rattle.syntax.specs.Tree.{Tree}
use Rattle.grammar.specs.Token.{Name, Token, mark, name, numeral, end}
use Rattle.grammar.specs.Grammar.{Expr, literal, boolean, used, lambda, apply, let_in, plus, at_most, if_else, expr}
use Rattle.grammar.specs.Grammar.{Derives}
use Rattle.grammar.specs.Names.{distance, one, two, three, variable_at, resolved}
use Rattle.grammar.specs.Sentence.{Sentence, Begins, BeginsBound}
use Rattle.grammar.specs.Automaton.{State, operand, fun_name, fun_arrow, let_name, let_equals, accepted, Outcome, go}
use Rattle.grammar.specs.Automaton.{stuck, unknown, applied, start, scope, and_then, step, run, Fits, found, any}
use Rattle.grammar.specs.Automaton.{in_force}
use Rattle.grammar.proofs.Completeness.{run-++, run_snoc, run_from, reads_to, end_ends}
use Rattle.grammar.proofs.Soundness.{spelled, Spelled}
use Rattle.grammar.proofs.Completion.{accepts}

-- ── names ──

any_fits : (book names : List Name) (e : Expr) → Fits any book names e
any_fits book names (literal z) = tt
any_fits book names (boolean b) = tt
any_fits book names (used x) = refl
any_fits book names (lambda x e) = any_fits book (x ∷ names) e
any_fits book names (apply e f) = (any_fits book names e, any_fits book names f)
any_fits book names (let_in x e f) = (any_fits book names e, any_fits book (x ∷ names) f)
any_fits book names (plus e f) = (any_fits book names e, any_fits book names f)
any_fits book names (at_most e f) = (any_fits book names e, any_fits book names f)
any_fits book names (if_else e f g) = (any_fits book names e, (any_fits book names f, any_fits book names g))

abbrev Is : Option Tree → Type 0
Is o = (t : Tree) × (o ≡ some t)

one_is : (make : Tree → Tree) (o : Option Tree) → Is o → Is (one make o)
one_is make o h = (make h.0, ap (one make) h.1)

two_is : (make : Tree → Tree → Tree) (o p : Option Tree) → Is o → Is p → Is (two make o p)
two_is make o p h k = (make h.0 k.0, ap (λ x. two make x p) h.1 ∙ ap (one (make h.0)) k.1)

three_is : (make : Tree → Tree → Tree → Tree) (o p q : Option Tree) → Is o → Is p → Is q → Is (three make o p q)
three_is make o p q h k l = let r = two_is (make h.0) p q k l in (r.0, ap (λ x. three make x p q) h.1 ∙ r.1)

found_is : (o : Option ℕ) → found o ≡ true → Is (variable_at o)
found_is none e = absurd (true≢false (sym e))
found_is (some d) e = (Tree.variable d, refl)

fits_resolved : (book names : List Name) (e : Expr) → Fits in_force book names e → Is (resolved names e)
fits_resolved book names (literal z) h = (Tree.number z, refl)
fits_resolved book names (boolean b) h = (Tree.truth b, refl)
fits_resolved book names (used x) h = found_is (distance names x) h
fits_resolved book names (lambda x e) h = one_is Tree.function (resolved (x ∷ names) e)
    (fits_resolved book (x ∷ names) e h)
fits_resolved book names (apply e f) h = two_is Tree.application (resolved names e) (resolved names f)
    (fits_resolved book names e h.0) (fits_resolved book names f h.1)
fits_resolved book names (let_in x e f) h = two_is Tree.let_in (resolved names e) (resolved (x ∷ names) f)
    (fits_resolved book names e h.0) (fits_resolved book (x ∷ names) f h.1)
fits_resolved book names (plus e f) h = two_is Tree.sum (resolved names e) (resolved names f)
    (fits_resolved book names e h.0) (fits_resolved book names f h.1)
fits_resolved book names (at_most e f) h = two_is Tree.at_most (resolved names e) (resolved names f)
    (fits_resolved book names e h.0) (fits_resolved book names f h.1)
fits_resolved book names (if_else e f g) h =
    three_is Tree.if_else (resolved names e) (resolved names f) (resolved names g) (fits_resolved book names e h.0)
    (fits_resolved book names f h.1.0) (fits_resolved book names g h.1.1)

abbrev has : Option Tree → Bool
has none = false
has (some t) = true

one_has : (make : Tree → Tree) (o : Option Tree) → has (one make o) ≡ true → has o ≡ true
one_has make none h = h
one_has make (some t) h = refl

two_has : (make : Tree → Tree → Tree) (o p : Option Tree) → has (two make o p) ≡ true → (has o ≡ true) × (has p ≡ true)
two_has make none p h = absurd (true≢false (sym h))
two_has make (some t) p h = (refl, one_has (make t) p h)

three_has : (make : Tree → Tree → Tree → Tree) (o p q : Option Tree) → has (three make o p q) ≡ true → (has o ≡ true)
    × ((has p ≡ true) × (has q ≡ true))
three_has make none p q h = absurd (true≢false (sym h))
three_has make (some t) p q h = (refl, two_has (make t) p q h)

found_has : (o : Option ℕ) → has (variable_at o) ≡ true → found o ≡ true
found_has none h = h
found_has (some d) h = refl

has_fits : (book names : List Name) (e : Expr) → has (resolved names e) ≡ true → Fits in_force book names e
has_fits book names (literal z) h = tt
has_fits book names (boolean b) h = tt
has_fits book names (used x) h = found_has (distance names x) h
has_fits book names (lambda x e) h = has_fits book (x ∷ names) e (one_has Tree.function (resolved (x ∷ names) e) h)
has_fits book names (apply e f) h = let p = two_has Tree.application (resolved names e) (resolved names f) h
    in (has_fits book names e p.0, has_fits book names f p.1)
has_fits book names (let_in x e f) h = let p = two_has Tree.let_in (resolved names e) (resolved (x ∷ names) f) h
    in (has_fits book names e p.0, has_fits book (x ∷ names) f p.1)
has_fits book names (plus e f) h = let p = two_has Tree.sum (resolved names e) (resolved names f) h
    in (has_fits book names e p.0, has_fits book names f p.1)
has_fits book names (at_most e f) h = let p = two_has Tree.at_most (resolved names e) (resolved names f) h
    in (has_fits book names e p.0, has_fits book names f p.1)
has_fits book names (if_else e f g) h =
    let p = three_has Tree.if_else (resolved names e) (resolved names f) (resolved names g) h in
    (has_fits book names e p.0, (has_fits book names f p.1.0, has_fits book names g p.1.1))

-- ── sentences and runs, whatever names are allowed ──

abbrev goes : Outcome → Bool
goes (go s) = true
goes stuck = false
goes unknown = false

abbrev Goes : Outcome → Type 0
Goes o = (s : State) × (o ≡ go s)

and_then_goes : (o : Outcome) (f : State → Outcome) → goes (and_then o f) ≡ true → Goes o
and_then_goes (go s) f h = (s, refl)
and_then_goes stuck f h = absurd (true≢false (sym h))
and_then_goes unknown f h = absurd (true≢false (sym h))

go_not_stuck : (o : Outcome) (s : State) → o ≡ go s → o ≡ stuck → ⊥
go_not_stuck o s p q = true≢false (ap goes (sym p ∙ q))

go_not_unknown : (o : Outcome) (s : State) → o ≡ go s → o ≡ unknown → ⊥
go_not_unknown o s p q = true≢false (ap goes (sym p ∙ q))

module _ (allowed : List Name → Name → Bool) (book : List Name) where
  -- a sentence is accepted with its tree
  sentence_accepted : (ts : List Token) (e : Expr) → Sentence ts e → Fits allowed book book e
      → run allowed book (start []) ts ≡ go (accepted e)
  sentence_accepted ts e h fits = ap (run allowed book (start [])) h.1 ∙ reads_to allowed book h.2 [] fits end end_ends

  sentence_begun : (ts rest : List Token) (e : Expr) → Sentence (ts ++ rest) e → Fits allowed book book e
      → Goes (run allowed book (start []) ts)
  sentence_begun ts rest e h fits =
      and_then_goes (run allowed book (start []) ts) (λ s. run allowed book s rest)
      (ap goes (sym (run-++ allowed book ts rest (start [])) ∙ sentence_accepted (ts ++ rest) e h fits))

  begun_sentence : (ts : List Token) (s : State) → run allowed book (start []) ts ≡ go s → (rest : List Token)
      × (e : Expr) × Sentence (ts ++ rest) e × Fits allowed book book e
  begun_sentence ts s h =
      let r = accepts allowed book s in
      let p : Spelled allowed book (accepted r.1.0) (ts ++ r.0) = spelled allowed book (ts ++ r.0) (accepted r.1.0)
      (run_from allowed book (start []) ts r.0 h ∙ r.1.1) in
      (r.0, r.1.0, (p.0, p.2, p.1.0), p.1.1)

-- ── what a run with only names in force says of one with any ──

cond_go : (b : Bool) (s s' : State) → cond b (go s) unknown ≡ go s' → go s ≡ go s'
cond_go true s s' h = h
cond_go false s s' h = absurd (true≢false (ap goes (sym h)))

go_any : (book : List Name) (s : State) (t : Token) (s' : State) → step in_force book s t ≡ go s'
    → step any book s t ≡ go s'
go_any book (operand cl sl ap k) (mark m) s' h = h
go_any book (operand cl sl ap k) (name x) s' h = cond_go (in_force (scope book k) x)
    (operand cl sl (some (applied ap (used x))) k) s' h
go_any book (operand cl sl ap k) (numeral z) s' h = h
go_any book (operand cl sl ap k) end s' h = h
go_any book (fun_name k) t s' h = h
go_any book (fun_arrow x k) t s' h = h
go_any book (let_name k) t s' h = h
go_any book (let_equals x k) t s' h = h
go_any book (accepted e) t s' h = h

-- what is not known where any name would go on is a name
pub unknown_name : (book : List Name) (s : State) (t : Token) (s' : State) → step in_force book s t ≡ unknown
    → step any book s t ≡ go s' → (x : Name) × (t ≡ name x)
unknown_name book (operand cl sl ap k) (mark m) s' h g =
    absurd (go_not_unknown (step any book (operand cl sl ap k) (mark m)) s' g h)
unknown_name book (operand cl sl ap k) (name x) s' h g = (x, refl)
unknown_name book (operand cl sl ap k) (numeral z) s' h g =
    absurd (go_not_unknown (step any book (operand cl sl ap k) (numeral z)) s' g h)
unknown_name book (operand cl sl ap k) end s' h g = absurd (go_not_unknown (step any book (operand cl sl ap k) end) s'
    g h)
unknown_name book (fun_name k) t s' h g = absurd (go_not_unknown (step any book (fun_name k) t) s' g h)
unknown_name book (fun_arrow x k) t s' h g = absurd (go_not_unknown (step any book (fun_arrow x k) t) s' g h)
unknown_name book (let_name k) t s' h g = absurd (go_not_unknown (step any book (let_name k) t) s' g h)
unknown_name book (let_equals x k) t s' h g = absurd (go_not_unknown (step any book (let_equals x k) t) s' g h)
unknown_name book (accepted e) t s' h g = absurd (go_not_unknown (step any book (accepted e) t) s' g h)

stuck? : Outcome → Bool
stuck? (go s) = false
stuck? stuck = true
stuck? unknown = false

cond_stuck : (b : Bool) (s : State) → cond b (go s) unknown ≡ stuck → ⊥
unfolding stuck?
cond_stuck true s h = true≢false (ap stuck? (sym h))
cond_stuck false s h = true≢false (ap stuck? (sym h))

stuck_any : (book : List Name) (s : State) (t : Token) → step in_force book s t ≡ stuck → step any book s t ≡ stuck
stuck_any book (operand cl sl ap k) (mark m) h = h
stuck_any book (operand cl sl ap k) (name x) h = absurd (cond_stuck (in_force (scope book k) x)
    (operand cl sl (some (applied ap (used x))) k) h)
stuck_any book (operand cl sl ap k) (numeral z) h = h
stuck_any book (operand cl sl ap k) end h = h
stuck_any book (fun_name k) t h = h
stuck_any book (fun_arrow x k) t h = h
stuck_any book (let_name k) t h = h
stuck_any book (let_equals x k) t h = h
stuck_any book (accepted e) t h = h

run_any : (book : List Name) (ts : List Token) (s s' : State) → run in_force book s ts ≡ go s'
    → run any book s ts ≡ go s'
run_any book [] s s' h = h
run_any book (t ∷ ts) s s' h =
    let m = and_then_goes (step in_force book s t) (λ u. run in_force book u ts) (ap goes h) in
    ap (λ o. and_then o (λ u. run any book u ts)) (go_any book s t m.0 m.1)
    ∙ run_any book ts m.0 s' (sym (ap (λ o. and_then o (λ u. run in_force book u ts)) m.1) ∙ h)

-- ── the laws ──

module _ (book : List Name) (ts : List Token) where
  -- what has been read begins a sentence with its names in force
  pub begins_bound : (s : State) → run in_force book (start []) ts ≡ go s → BeginsBound book ts
  begins_bound s h = let r = begun_sentence in_force book ts s h in let t = fits_resolved book book r.1 r.3 in (
    r.0,
    r.1,
    t.0,
    r.2,
    t.1,
  )

  -- and what begins one so is gone over
  pub begun : BeginsBound book ts → Goes (run in_force book (start []) ts)
  begun h = sentence_begun in_force book ts h.0 h.1 h.3 (has_fits book book h.1 (ap has h.4))

  -- where the automaton is stuck, no sentence goes on
  pub stuck_begins : (s : State) (t : Token) → run in_force book (start []) ts ≡ go s → step in_force book s t ≡ stuck
      → Begins (ts ++ t ∷ []) → ⊥
  stuck_begins s t h k b =
      let r = sentence_begun any book (ts ++ t ∷ []) b.0 b.1 b.2 (any_fits book book b.1) in
      go_not_stuck (run any book (start []) (ts ++ t ∷ [])) r.0 r.1 (run_snoc any book (start []) ts t
      (run_any book ts (start []) s h) ∙ stuck_any book s t k)

  -- where it would go on with any name, some sentence does
  pub goes_begins : (s s' : State) (t : Token) → run in_force book (start []) ts ≡ go s → step any book s t ≡ go s'
      → Begins (ts ++ t ∷ [])
  goes_begins s s' t h k =
      let r = begun_sentence any book (ts ++ t ∷ []) s' (run_snoc any book (start []) ts t
      (run_any book ts (start []) s h) ∙ k) in
      (r.0, r.1, r.2)

  -- where it does not know a name, no sentence with its names in force goes on
  pub unknown_begins : (s : State) (t : Token) → run in_force book (start []) ts ≡ go s
      → step in_force book s t ≡ unknown → BeginsBound book (ts ++ t ∷ []) → ⊥
  unknown_begins s t h k b =
      let r = sentence_begun in_force book (ts ++ t ∷ []) b.0 b.1 b.3 (has_fits book book b.1 (ap has b.4)) in
      go_not_unknown (run in_force book (start []) (ts ++ t ∷ [])) r.0 r.1 (run_snoc in_force book (start []) ts t h
      ∙ k)

  -- what is accepted is a sentence
  pub accepted_sentence : (e : Expr) → run in_force book (start []) ts ≡ go (accepted e) → Sentence ts e
  accepted_sentence e h = let p = spelled in_force book ts (accepted e) h in (p.0, p.2, p.1.0)

-- a token list has at most one tree
pub one_tree : (ts : List Token) (e f : Expr) → Derives expr ts e → Derives expr ts f → e ≡ f
one_tree ts e f d d' =
    let p = sentence_accepted any [] (ts ++ end ∷ []) e (ts, refl, d) (any_fits [] [] e) in
    let q = sentence_accepted any [] (ts ++ end ∷ []) f (ts, refl, d') (any_fits [] [] f) in
    cc
