-- Reading the classes of the grammar one inside the other: what each function of the parser comes to.
--
use Rattle.std.proofs.Common.{◌≡◌, ℕ, Bool, true, false, cond, List, [], ◌∷◌, ℤ, sym, refl, ap, ◌∙◌, true≢false, arith}
use mathlib.Core.Option.{Option, some, none}
use Rattle.grammar.specs.declared.Mark.{Mark}
use Rattle.grammar.specs.declared.Mark.TheVariants.{Fun, Let, In, If, Then, Else, True, False, Arrow, Equals, AtMost}
use Rattle.grammar.specs.declared.Mark.TheVariants.{Plus, Open, Close}
use Rattle.grammar.specs.Token.{Name, Token, mark, name, numeral, end, is}
use Rattle.grammar.specs.Names.{distance}
use Rattle.grammar.specs.Grammar.{Expr, literal, boolean, used, lambda, apply, let_in, plus, at_most, if_else}
use Rattle.grammar.specs.Automaton.{Frame, paren, fun_body, let_bound, let_body, condition, then_branch, else_branch}
use Rattle.grammar.specs.Automaton.{State, operand, fun_name, fun_arrow, let_name, let_equals, Outcome, go, stuck}
use Rattle.grammar.specs.Automaton.{unknown, applied, summed, compared, start, is_end, close, at_binder, scope}
use Rattle.grammar.specs.Automaton.{and_then, step, run, found, any, in_force, starts_atom}
use Rattle.grammar.specs.Walking.{Stand, Went, here, Unread, no_sentence, no_name, unread, Reached, Through, Expects}
use Rattle.grammar.specs.Walking.{Missed}
use Rattle.grammar.specs.Classes.{ReadAtom, ReadApp, ReadSum, ReadExpr, RefusedAtom, RefusedApp, RefusedSum}
use Rattle.grammar.specs.Classes.{RefusedCmp, RefusedExpr}
use Rattle.grammar.proofs.Walking.{through_one, through-++, through_current, went_current, reached_here, reached_over}
use Rattle.grammar.proofs.Walking.{reached-++, reached_refuses, reached_wrong, asked_over, missed_wrong}
use Rattle.grammar.proofs.Walking.{unread_refuses, mark_on}

-- ── tokens that end something ──

-- a mark that closes nothing is stuck in every frame
close_stuck : (m : Mark) (e : Expr) (k : List Frame) → is Close (mark m) ≡ false → is In (mark m) ≡ false
    → is Then (mark m) ≡ false → is Else (mark m) ≡ false → close (mark m) e k ≡ stuck
close_stuck m e [] a b c d = refl
close_stuck m e (paren cl sl ap' ∷ k) a b c d = ap (λ x. cond x (go (operand cl sl (some (applied ap' e)) k)) stuck) a
close_stuck m e (fun_body x ∷ k) a b c d = close_stuck m (lambda x e) k a b c d
close_stuck m e (let_bound x ∷ k) a b c d = ap (λ y. cond y (go (start (let_body x e ∷ k))) stuck) b
close_stuck m e (let_body x f ∷ k) a b c d = close_stuck m (let_in x f e) k a b c d
close_stuck m e (condition ∷ k) a b c d = ap (λ y. cond y (go (start (then_branch e ∷ k))) stuck) c
close_stuck m e (then_branch f ∷ k) a b c d = ap (λ y. cond y (go (start (else_branch f e ∷ k))) stuck) d
close_stuck m e (else_branch f g ∷ k) a b c d = close_stuck m (if_else f g e) k a b c d

-- whether a second `<=` is meant
abbrev once : Option Expr → Token → Type 0
once none t = is AtMost t ≡ false
once (some l) t = Unit {0}

module _ (book : List Name) where
  -- a token that goes on neither an application, nor a sum, nor a comparison closes the expression
  step_after : (cl sl : Option Expr) (f : Expr) (k : List Frame) (t : Token) → starts_atom t ≡ false
      → is Plus t ≡ false → once cl t → step in_force book (operand cl sl (some f) k) t ≡ close t
      (compared cl (summed sl f)) k
  step_after cl sl f k (mark Fun) a b c = fresh_stuck cl sl
      ∙ sym (close_stuck Fun (compared cl (summed sl f)) k refl refl refl refl)
    where
      fresh_stuck : (cl sl : Option Expr) → step in_force book (operand cl sl (some f) k) (mark Fun) ≡ stuck
      fresh_stuck none none = refl
      fresh_stuck none (some l) = refl
      fresh_stuck (some l) sl = refl
  step_after cl sl f k (mark Let) a b c = fresh_stuck cl sl
      ∙ sym (close_stuck Let (compared cl (summed sl f)) k refl refl refl refl)
    where
      fresh_stuck : (cl sl : Option Expr) → step in_force book (operand cl sl (some f) k) (mark Let) ≡ stuck
      fresh_stuck none none = refl
      fresh_stuck none (some l) = refl
      fresh_stuck (some l) sl = refl
  step_after cl sl f k (mark In) a b c = refl
  step_after cl sl f k (mark If) a b c = fresh_stuck cl sl
      ∙ sym (close_stuck If (compared cl (summed sl f)) k refl refl refl refl)
    where
      fresh_stuck : (cl sl : Option Expr) → step in_force book (operand cl sl (some f) k) (mark If) ≡ stuck
      fresh_stuck none none = refl
      fresh_stuck none (some l) = refl
      fresh_stuck (some l) sl = refl
  step_after cl sl f k (mark Then) a b c = refl
  step_after cl sl f k (mark Else) a b c = refl
  step_after cl sl f k (mark True) a b c = absurd (true≢false a)
  step_after cl sl f k (mark False) a b c = absurd (true≢false a)
  step_after cl sl f k (mark Arrow) a b c = refl
  step_after cl sl f k (mark Equals) a b c = refl
  step_after none sl f k (mark AtMost) a b c = absurd (true≢false c)
  step_after (some l) sl f k (mark AtMost) a b c = sym (close_stuck AtMost (at_most l (summed sl f)) k refl refl refl
      refl)
  step_after cl sl f k (mark Plus) a b c = absurd (true≢false b)
  step_after cl sl f k (mark Open) a b c = absurd (true≢false a)
  step_after cl sl f k (mark Close) a b c = refl
  step_after cl sl f k (name x) a b c = absurd (true≢false a)
  step_after cl sl f k (numeral z) a b c = absurd (true≢false a)
  step_after cl sl f k end a b c = refl

  -- ── where only an atom may begin ──

  -- a `+` or a `<=` stands before
  abbrev Begun : Option Expr → Option Expr → Type 0
  Begun none none = ⊥
  Begun none (some l) = Unit {0}
  Begun (some l) sl = Unit {0}

  begun_stuck : (cl sl : Option Expr) (k : List Frame) (s : State) → Begun cl sl
      → Rattle.grammar.specs.Automaton.fresh cl sl none s ≡ stuck
  begun_stuck none none k s h = absurd h
  begun_stuck none (some l) k s h = refl
  begun_stuck (some l) sl k s h = refl

  expects_begun : (cl sl : Option Expr) (k : List Frame) (t : Token) → Begun cl sl
      → Expects book (operand cl sl none k) t
  expects_begun cl sl k (mark Fun) h = λ e. begun_stuck cl sl k (fun_name k) h
  expects_begun cl sl k (mark Let) h = λ e. begun_stuck cl sl k (let_name k) h
  expects_begun cl sl k (mark In) h = λ e. refl
  expects_begun cl sl k (mark If) h = λ e. begun_stuck cl sl k (start (condition ∷ k)) h
  expects_begun cl sl k (mark Then) h = λ e. refl
  expects_begun cl sl k (mark Else) h = λ e. refl
  expects_begun cl sl k (mark True) h = λ e. absurd (true≢false e)
  expects_begun cl sl k (mark False) h = λ e. absurd (true≢false e)
  expects_begun cl sl k (mark Arrow) h = λ e. refl
  expects_begun cl sl k (mark Equals) h = λ e. refl
  expects_begun cl sl k (mark AtMost) h = λ e. refl
  expects_begun cl sl k (mark Plus) h = λ e. refl
  expects_begun cl sl k (mark Open) h = λ e. absurd (true≢false e)
  expects_begun cl sl k (mark Close) h = λ e. refl
  expects_begun cl sl k (name x) h = λ e. absurd (true≢false e)
  expects_begun cl sl k (numeral z) h = λ e. absurd (true≢false e)
  expects_begun cl sl k end h = λ e. refl

  begun_sum : (cl : Option Expr) (l : Expr) → Begun cl (some l)
  begun_sum none l = tt
  begun_sum (some x) l = tt

  -- `fun`, `let` and `if` apart, a new expression begins with an atom
  pub expects_start : (k : List Frame) (t : Token) → is Fun t ≡ false → is Let t ≡ false → is If t ≡ false
      → Expects book (start k) t
  expects_start k (mark Fun) a b c = λ e. absurd (true≢false a)
  expects_start k (mark Let) a b c = λ e. absurd (true≢false b)
  expects_start k (mark In) a b c = λ e. refl
  expects_start k (mark If) a b c = λ e. absurd (true≢false c)
  expects_start k (mark Then) a b c = λ e. refl
  expects_start k (mark Else) a b c = λ e. refl
  expects_start k (mark True) a b c = λ e. absurd (true≢false e)
  expects_start k (mark False) a b c = λ e. absurd (true≢false e)
  expects_start k (mark Arrow) a b c = λ e. refl
  expects_start k (mark Equals) a b c = λ e. refl
  expects_start k (mark AtMost) a b c = λ e. refl
  expects_start k (mark Plus) a b c = λ e. refl
  expects_start k (mark Open) a b c = λ e. absurd (true≢false e)
  expects_start k (mark Close) a b c = λ e. refl
  expects_start k (name x) a b c = λ e. absurd (true≢false e)
  expects_start k (numeral z) a b c = λ e. absurd (true≢false e)
  expects_start k end a b c = λ e. refl

  module _ (names : List Name) (s : List ℕ) where
    -- ── atoms ──

    -- a token that is an atom by itself, in every place where these names are in force
    abbrev pub Leaf : Token → Expr → Type 0
    Leaf t e = (cl sl ap' : Option Expr) (k : List Frame) → scope book k ≡ names
        → step in_force book (operand cl sl ap' k) t ≡ go (operand cl sl (some (applied ap' e)) k)

    pub leaf_number : (z : ℤ) → Leaf (numeral z) (literal z)
    leaf_number z cl sl ap' k h = refl

    pub leaf_true : Leaf (mark True) (boolean true)
    leaf_true cl sl ap' k h = refl

    pub leaf_false : Leaf (mark False) (boolean false)
    leaf_false cl sl ap' k h = refl

    pub leaf_name : (x : Name) (d : ℕ) → distance names x ≡ some d → Leaf (name x) (used x)
    leaf_name x d e cl sl ap' k h = ap (λ b. cond b (go (operand cl sl (some (applied ap' (used x))) k)) unknown)
        (ap found (ap (λ l. distance l x) h ∙ e))

    pub atom_leaf : (p q : Stand) (e : Expr) → is_end p.token ≡ false → Leaf p.token e → Went s p q
        → ReadAtom book names s p q e
    atom_leaf p q e o l w = (
      through_one s p q o w,
      w.0.0.0,
      λ cl sl ap' k h. reached_over book s p q
          (operand cl sl ap' k) _ o w (l cl sl ap' k h),
    )

    pub atom_leaf_unread : (p : Stand) (e : Expr) (n place : ℕ) → is_end p.token ≡ false → Leaf p.token e
        → Unread s p.stop n place → RefusedAtom book names s p n place
    atom_leaf_unread p e n place o l u cl sl ap' k h x = unread_refuses book s p (operand cl sl ap' k) _ n place o
        (l cl sl ap' k h) u

    pub atom_unknown : (p : Stand) (x : Name) → p.token ≡ name x → distance names x ≡ none
        → RefusedAtom book names s p 57 p.place
    atom_unknown p x t e cl sl ap' k h y =
        let a = operand cl sl ap' k in
        let b = operand cl sl (some (applied ap' (used x))) k in
        let stop : step in_force book a p.token ≡ unknown = ap (step in_force book a) t
        ∙ ap (λ c. cond c (go b) unknown) (ap found (ap (λ l. distance l x) h ∙ e)) in
        let on : step any book a p.token ≡ go b = ap (step any book a) t in
        reached_wrong book s p p a a 57 p.place (reached_here book s p a) (no_name stop on)

    pub atom_none : (p : Stand) → starts_atom p.token ≡ false → RefusedAtom book names s p 55 p.place
    atom_none p e cl sl ap' k h x = reached_wrong book s p p _ _ 55 p.place
        (reached_here book s p (operand cl sl ap' k)) (no_sentence (x e))

    open_step : (p : Stand) (cl sl ap' : Option Expr) (k : List Frame) → p.token ≡ mark Open
        → step in_force book (operand cl sl ap' k) p.token ≡ go (start (paren cl sl ap' ∷ k))
    open_step p cl sl ap' k t = ap (step in_force book (operand cl sl ap' k)) t

    pub paren_unread : (p : Stand) (n place : ℕ) → p.token ≡ mark Open → Unread s p.stop n place
        → RefusedAtom book names s p n place
    paren_unread p n place t u cl sl ap' k h x = unread_refuses book s p (operand cl sl ap' k) _ n place (ap is_end t)
        (open_step p cl sl ap' k t) u

    pub paren_refused : (p q : Stand) (n place : ℕ) → p.token ≡ mark Open → Went s p q
        → RefusedExpr book names s q n place → RefusedAtom book names s p n place
    paren_refused p q n place t w r cl sl ap' k h x = reached_refuses book s p q _ _ n place
        (reached_over book s p q (operand cl sl ap' k) _ (ap is_end t) w (open_step p cl sl ap' k t))
        (r (paren cl sl ap' ∷ k) h)

    -- up to the parenthesis that should close
    inside : (p q r : Stand) (e : Expr) → p.token ≡ mark Open → Went s p q → ReadExpr book names s q r e
        → (cl sl ap' : Option Expr) (k : List Frame) → scope book k ≡ names → (a : State)
        × Reached book s p (operand cl sl ap' k) r a × (step in_force book a r.token ≡ cond (is Close r.token)
        (go (operand cl sl (some (applied ap' e)) k)) stuck)
    inside p q r e t w x cl sl ap' k h =
        let y = x.1 (paren cl sl ap' ∷ k) h in (
          y.0,
          reached-++ book s p q r (operand cl sl ap' k) (start (paren cl sl ap' ∷ k)) y.0
              (reached_over book s p q _ _ (ap is_end t) w (open_step p cl sl ap' k t)) y.1,
          y.2,
        )

    pub paren_missed : (p q r : Stand) (e : Expr) (n place : ℕ) → p.token ≡ mark Open → Went s p q
        → ReadExpr book names s q r e → Missed (is Close) s r n place → RefusedAtom book names s p n place
    paren_missed p q r e n place t w x m cl sl ap' k h y =
        let i = inside p q r e t w x cl sl ap' k h in
        reached_wrong book s p r _ i.0 n place i.1 (missed_wrong book s (is Close) (mark_on Close) r i.0 _ n place i.2
        m)

    pub atom_paren : (p q r u : Stand) (e : Expr) → p.token ≡ mark Open → Went s p q → ReadExpr book names s q r e
        → is Close r.token ≡ true → Went s r u → ReadAtom book names s p u e
    atom_paren p q r u e t w x c v = (
      through-++ s p q u (through_one s p q (ap is_end t) w)
          (through-++ s q r u x.0 (through_one s r u (mark_on Close r.token c) v)),
      omega (
        arith,
        w.0.0.0,
        (through_current s q u
            (through-++ s q r u x.0 (through_one s r u (mark_on Close r.token c) v)) (went_current s p q w).0).1,
      ),
      λ cl sl ap' k h.
          let i = inside p q r e t w x cl sl ap' k h in
          reached-++ book s p r u (operand cl sl ap' k) i.0 _ i.1 (reached_over book s r u i.0 _
          (mark_on Close r.token c) v (asked_over book s (is Close) r i.0 _ i.2 c)),
    )

    -- ── applications ──

    pub app_first : (p q : Stand) (e : Expr) → ReadAtom book names s p q e → ReadApp book names s p q e
    app_first p q e x = (x.0, λ cl sl k h. x.2 cl sl none k h)

    pub app_more : (p q r : Stand) (e f : Expr) → ReadApp book names s p q e → ReadAtom book names s q r f
        → ReadApp book names s p r (apply e f)
    app_more p q r e f x y = (
      through-++ s p q r x.0 y.0,
      λ cl sl k h. reached-++ book s p q r (operand cl sl none k)
          (operand cl sl (some e) k) _ (x.1 cl sl k h) (y.2 cl sl (some e) k h),
    )

    pub app_first_refused : (p : Stand) (n place : ℕ) → RefusedAtom book names s p n place
        → RefusedApp book names s p n place
    app_first_refused p n place x cl sl k h y = x cl sl none k h y

    pub app_more_refused : (p q : Stand) (e : Expr) (n place : ℕ) → ReadApp book names s p q e
        → starts_atom q.token ≡ true → RefusedAtom book names s q n place → RefusedApp book names s p n place
    app_more_refused p q e n place x a y cl sl k h z = reached_refuses book s p q (operand cl sl none k)
        (operand cl sl (some e) k) n place (x.1 cl sl k h) (y cl sl (some e) k h (λ b. absurd (true≢false (sym a ∙ b))))

    -- ── sums ──

    pub sum_first : (p q : Stand) (e : Expr) → ReadApp book names s p q e → ReadSum book names s p q e
    sum_first p q e x = (x.0, λ cl k h. (none, e, x.1 cl none k h, refl))

    pub sum_first_refused : (p : Stand) (n place : ℕ) → RefusedApp book names s p n place
        → RefusedSum book names s p n place
    sum_first_refused p n place x cl k h y = x cl none k h y

    -- over a sum and the `+` behind it
    plus_step : (q : Stand) (cl sl : Option Expr) (f e : Expr) (k : List Frame) → q.token ≡ mark Plus
        → summed sl f ≡ e → step in_force book (operand cl sl (some f) k) q.token ≡ go (operand cl (some e) none k)
    plus_step q cl sl f e k t h = ap (step in_force book (operand cl sl (some f) k)) t
        ∙ ap (λ x. go (operand cl (some x) none k)) h

    over_plus : (p q r : Stand) (e : Expr) → ReadSum book names s p q e → q.token ≡ mark Plus → Went s q r
        → (cl : Option Expr) (k : List Frame) → scope book k ≡ names → Reached book s p (operand cl none none k) r
        (operand cl (some e) none k)
    over_plus p q r e x t w cl k h =
        let y = x.1 cl k h in
        reached-++ book s p q r (operand cl none none k) (operand cl y.0 (some y.1) k) _ y.2
        (reached_over book s q r _ _ (ap is_end t) w (plus_step q cl y.0 y.1 e k t y.3))

    pub sum_more : (p q r u : Stand) (e f : Expr) → ReadSum book names s p q e → q.token ≡ mark Plus → Went s q r
        → ReadApp book names s r u f → ReadSum book names s p u (plus e f)
    sum_more p q r u e f x t w y = (
      through-++ s p q u x.0 (through-++ s q r u (through_one s q r (ap is_end t) w) y.0),
      λ cl k h. (
        some e,
        f,
        reached-++ book s p r u (operand cl none none k) (operand cl (some e) none k) _
            (over_plus p q r e x t w cl k h) (y.1 cl (some e) k h),
        refl,
      ),
    )

    pub sum_plus_unread : (p q : Stand) (e : Expr) (n place : ℕ) → ReadSum book names s p q e → q.token ≡ mark Plus
        → Unread s q.stop n place → RefusedSum book names s p n place
    sum_plus_unread p q e n place x t u cl k h z =
        let y = x.1 cl k h in
        reached_wrong book s p q (operand cl none none k) (operand cl y.0 (some y.1) k) n place y.2
        (unread (ap is_end t) (plus_step q cl y.0 y.1 e k t y.3) u)

    pub sum_more_refused : (p q r : Stand) (e : Expr) (n place : ℕ) → ReadSum book names s p q e → q.token ≡ mark Plus
        → Went s q r → RefusedApp book names s r n place → RefusedSum book names s p n place
    sum_more_refused p q r e n place x t w y cl k h z = reached_refuses book s p r (operand cl none none k)
        (operand cl (some e) none k) n place (over_plus p q r e x t w cl k h)
        (y cl (some e) k h (expects_begun cl (some e) k r.token (begun_sum cl e)))

    -- ── comparisons ──

    pub cmp_sum : (p q : Stand) (e : Expr) → ReadSum book names s p q e → starts_atom q.token ≡ false
        → is Plus q.token ≡ false → is AtMost q.token ≡ false → ReadExpr book names s p q e
    cmp_sum p q e x a b c = (
      x.0,
      λ k h. let y = x.1 none k h in (
        operand none y.0 (some y.1) k,
        y.2,
        step_after none y.0 y.1 k q.token a b c ∙ ap (λ f. close q.token f k) y.3,
      ),
    )

    pub cmp_sum_refused : (p : Stand) (n place : ℕ) → RefusedSum book names s p n place
        → RefusedCmp book names s p n place
    cmp_sum_refused p n place x k h y = x none k h y

    at_most_step : (q : Stand) (sl : Option Expr) (f e : Expr) (k : List Frame) → q.token ≡ mark AtMost
        → summed sl f ≡ e → step in_force book (operand none sl (some f) k) q.token ≡ go (operand (some e) none none k)
    at_most_step q sl f e k t h = ap (step in_force book (operand none sl (some f) k)) t
        ∙ ap (λ x. go (operand (some x) none none k)) h

    over_at_most : (p q r : Stand) (e : Expr) → ReadSum book names s p q e → q.token ≡ mark AtMost → Went s q r
        → (k : List Frame) → scope book k ≡ names → Reached book s p (start k) r (operand (some e) none none k)
    over_at_most p q r e x t w k h =
        let y = x.1 none k h in
        reached-++ book s p q r (start k) (operand none y.0 (some y.1) k) _ y.2 (reached_over book s q r _ _
        (ap is_end t) w (at_most_step q y.0 y.1 e k t y.3))

    pub cmp_at_most : (p q r u : Stand) (e f : Expr) → ReadSum book names s p q e → q.token ≡ mark AtMost → Went s q r
        → ReadSum book names s r u f → starts_atom u.token ≡ false → is Plus u.token ≡ false
        → ReadExpr book names s p u (at_most e f)
    cmp_at_most p q r u e f x t w y a b = (
      through-++ s p q u x.0 (through-++ s q r u (through_one s q r (ap is_end t) w) y.0),
      λ k h.
          let z = y.1 (some e) k h in (
            operand (some e) z.0 (some z.1) k,
            reached-++ book s p r u (start k) (operand (some e) none none k) _
                (over_at_most p q r e x t w k h) z.2,
            step_after (some e) z.0 z.1 k u.token a b tt
                ∙ ap (λ g. close u.token (at_most e g) k) z.3,
          ),
    )

    pub cmp_at_most_unread : (p q : Stand) (e : Expr) (n place : ℕ) → ReadSum book names s p q e
        → q.token ≡ mark AtMost → Unread s q.stop n place → RefusedCmp book names s p n place
    cmp_at_most_unread p q e n place x t u k h z =
        let y = x.1 none k h in
        reached_wrong book s p q (start k) (operand none y.0 (some y.1) k) n place y.2
        (unread (ap is_end t) (at_most_step q y.0 y.1 e k t y.3) u)

    pub cmp_at_most_refused : (p q r : Stand) (e : Expr) (n place : ℕ) → ReadSum book names s p q e
        → q.token ≡ mark AtMost → Went s q r → RefusedSum book names s r n place → RefusedCmp book names s p n place
    cmp_at_most_refused p q r e n place x t w y k h z = reached_refuses book s p r (start k)
        (operand (some e) none none k) n place (over_at_most p q r e x t w k h)
        (y (some e) k h (expects_begun (some e) none k r.token tt))

    -- ── expressions ──

    pub expr_cmp_refused : (p : Stand) (n place : ℕ) → is Fun p.token ≡ false → is Let p.token ≡ false
        → is If p.token ≡ false → RefusedCmp book names s p n place → RefusedExpr book names s p n place
    expr_cmp_refused p n place a b c x k h = x k h (expects_start k p.token a b c)

    -- what has been gone over of an expression, up to a stand: the state there, whatever is open
    abbrev pub Partly : Stand → Stand → (List Frame → State) → Type 0
    Partly p q a = Through s p q × ((k : List Frame) → scope book k ≡ names → Reached book s p (start k) q (a k))

    pub partly_here : (p : Stand) → Partly p p start
    partly_here p = (([], here), λ k h. reached_here book s p (start k))

    -- one token more
    pub partly_over : (p q r : Stand) (a b : List Frame → State) → Partly p q a → is_end q.token ≡ false → Went s q r
        → ((k : List Frame) → step in_force book (a k) q.token ≡ go (b k)) → Partly p r b
    partly_over p q r a b x o w f = (
      through-++ s p q r x.0 (through_one s q r o w),
      λ k h. reached-++ book s p q r
          (start k) (a k) (b k) (x.1 k h) (reached_over book s q r (a k) (b k) o w (f k)),
    )

    -- one token that was asked for
    pub partly_asked : (asked : Token → Bool) → ((t : Token) → asked t ≡ true → is_end t ≡ false)
        → (p q r : Stand) (a b : List Frame → State) → Partly p q a
        → ((k : List Frame) → step in_force book (a k) q.token ≡ cond (asked q.token) (go (b k)) stuck)
        → asked q.token ≡ true → Went s q r → Partly p r b
    partly_asked asked on p q r a b x f t w = partly_over p q r a b x (on q.token t) w (λ k. asked_over book s asked q
        (a k) (b k) (f k) t)

    pub partly_missed : (asked : Token → Bool) → ((t : Token) → asked t ≡ true → is_end t ≡ false)
        → (p q : Stand) (a b : List Frame → State) (n place : ℕ) → Partly p q a
        → ((k : List Frame) → step in_force book (a k) q.token ≡ cond (asked q.token) (go (b k)) stuck)
        → Missed asked s q n place → RefusedExpr book names s p n place
    partly_missed asked on p q a b n place x f m k h = reached_wrong book s p q (start k) (a k) n place (x.1 k h)
        (missed_wrong book s asked on q (a k) (b k) n place (f k) m)

    pub partly_unread : (p q : Stand) (a b : List Frame → State) (n place : ℕ) → Partly p q a → is_end q.token ≡ false
        → ((k : List Frame) → step in_force book (a k) q.token ≡ go (b k)) → Unread s q.stop n place
        → RefusedExpr book names s p n place
    partly_unread p q a b n place x o f u k h = reached_wrong book s p q (start k) (a k) n place (x.1 k h)
        (unread o (f k) u)

    -- an inner expression under one frame more, which has the names `inner` in force
    module _ (inner : List Name) (frame : Frame) (fits : (k : List Frame) → scope book k ≡ names
        → scope book (frame ∷ k) ≡ inner) where
      pub partly_refused : (p q : Stand) (n place : ℕ) → Partly p q (λ k. start (frame ∷ k))
          → RefusedExpr book inner s q n place → RefusedExpr book names s p n place
      partly_refused p q n place x y k h = reached_refuses book s p q (start k) (start (frame ∷ k)) n place (x.1 k h)
          (y (frame ∷ k) (fits k h))

      inner_state : (p q r : Stand) (e : Expr) → Partly p q (λ k. start (frame ∷ k)) → ReadExpr book inner s q r e
          → (k : List Frame) → scope book k ≡ names → (a : State) × Reached book s p (start k) r a
          × (step in_force book a r.token ≡ close r.token e (frame ∷ k))
      inner_state p q r e x y k h = let z = y.1 (frame ∷ k) (fits k h) in (
        z.0,
        reached-++ book s p q r (start k)
            (start (frame ∷ k)) z.0 (x.1 k h) z.1,
        z.2,
      )

      -- the frame ends with its expression
      pub partly_last : (p q r : Stand) (e f : Expr) → Partly p q (λ k. start (frame ∷ k))
          → ((t : Token) (k : List Frame) → close t e (frame ∷ k) ≡ close t f k) → ReadExpr book inner s q r e
          → ReadExpr book names s p r f
      partly_last p q r e f x c y =
          (through-++ s p q r x.0 y.0, λ k h. let z = inner_state p q r e x y k h in (z.0, z.1, z.2 ∙ c r.token k))

      -- a mark ends the frame's expression, and another frame begins
      module _ (m : Mark) (next : Frame) (e : Expr) (turns : (t : Token) (k : List Frame)
          → close t e (frame ∷ k) ≡ cond (is m t) (go (start (next ∷ k))) stuck) where
        pub partly_turn : (p q r u : Stand) → Partly p q (λ k. start (frame ∷ k)) → ReadExpr book inner s q r e
            → is m r.token ≡ true → Went s r u → Partly p u (λ k. start (next ∷ k))
        partly_turn p q r u x y t w = (
          through-++ s p q u x.0 (through-++ s q r u y.0 (through_one s r u (mark_on m r.token t) w)),
          λ k h.
              let z = inner_state p q r e x y k h in
              reached-++ book s p r u (start k) z.0 _ z.1 (reached_over book s r u z.0 _ (mark_on m r.token t) w
              (asked_over book s (is m) r z.0 _ (z.2 ∙ turns r.token k) t)),
        )

        pub partly_turn_missed : (p q r : Stand) (n place : ℕ) → Partly p q (λ k. start (frame ∷ k))
            → ReadExpr book inner s q r e → Missed (is m) s r n place → RefusedExpr book names s p n place
        partly_turn_missed p q r n place x y u k h =
            let z = inner_state p q r e x y k h in
            reached_wrong book s p r (start k) z.0 n place z.1 (missed_wrong book s (is m) (mark_on m) r z.0 _ n place
            (z.2 ∙ turns r.token k) u)
