-- What the automaton has read is what it says: the tokens so far are the open frames and the
-- operands, and an accepted tree is derived.
use Rattle.std.proofs.Common.{◌≡◌, Bool, true, false, cond, eqb, List, [], ◌∷◌, ◌++◌, get_or, sym, refl, ap, ◌∙◌}
use Rattle.std.proofs.Common.{subst, true≢false, append_assoc, append-nil, eqb-true}
use mathlib.Core.Option.{Option, some, none}
use Rattle.grammar.specs.declared.Mark.{Mark}
use Rattle.grammar.specs.declared.Mark.TheVariants.{Fun, Let, In, If, Then, Else, True, False, Arrow, Equals, AtMost}
use Rattle.grammar.specs.declared.Mark.TheVariants.{Plus, Open, Close}
use Rattle.grammar.specs.Token.{Name, Token, mark, name, numeral, end, is, ordinal}
use Rattle.grammar.specs.Grammar
use Rattle.grammar.specs.Grammar.{Expr, literal, boolean, used, lambda, apply, let_in, plus, at_most, if_else, Class}
use Rattle.grammar.specs.Grammar.{expr, cmp, sum, app, atom, Derives}
use Rattle.grammar.specs.Automaton.{Frame, paren, fun_body, let_bound, let_body, condition, then_branch, else_branch}
use Rattle.grammar.specs.Automaton.{State, operand, fun_name, fun_arrow, let_name, let_equals, accepted, Outcome, go}
use Rattle.grammar.specs.Automaton.{stuck, unknown, applied, summed, compared, start, is_end, close, closed, added}
use Rattle.grammar.specs.Automaton.{measured, fresh, at_mark, at_binder, scope, and_then, step, run, Fits}

marks : List Mark
marks = Fun ∷ Let ∷ In ∷ If ∷ Then ∷ Else ∷ True ∷ False ∷ Arrow ∷ Equals ∷ AtMost ∷ Plus ∷ Open ∷ Close ∷ []

marks_ordinal : (m : Mark) → get_or marks (ordinal m) Fun ≡ m
unfolding marks
marks_ordinal Fun = refl
marks_ordinal Let = refl
marks_ordinal In = refl
marks_ordinal If = refl
marks_ordinal Then = refl
marks_ordinal Else = refl
marks_ordinal True = refl
marks_ordinal False = refl
marks_ordinal Arrow = refl
marks_ordinal Equals = refl
marks_ordinal AtMost = refl
marks_ordinal Plus = refl
marks_ordinal Open = refl
marks_ordinal Close = refl

-- a token that passes for a mark is that mark
pub same_mark : (m n : Mark) → eqb (ordinal m) (ordinal n) ≡ true → m ≡ n
same_mark m n e = sym (marks_ordinal m) ∙ ap (λ i. get_or marks i Fun) (eqb-true (ordinal m) (ordinal n) e)
    ∙ marks_ordinal n

pub is_mark : (m : Mark) (t : Token) → is m t ≡ true → t ≡ mark m
is_mark m (mark n) e = ap mark (sym (same_mark m n e))
is_mark m (name x) e = absurd (true≢false (sym e))
is_mark m (numeral z) e = absurd (true≢false (sym e))
is_mark m end e = absurd (true≢false (sym e))

module _ (allowed : List Name → Name → Bool) (book : List Name) where
  -- tokens of a class, with the tree and its names allowed
  abbrev pub Piece : List Name → Class → List Token → Expr → Type 0
  Piece names c ts e = Derives c ts e × Fits allowed book names e

  -- what stands before a `+` or a `<=`, with that sign
  abbrev Left : Mark → List Name → Option Expr → List Token → Type 0
  Left m names none ts = ts ≡ []
  Left m names (some l) ts = (a : List Token) × (ts ≡ a ++ mark m ∷ []) × Piece names sum a l

  abbrev Applied : List Name → Option Expr → List Token → Type 0
  Applied names none ts = ts ≡ []
  Applied names (some f) ts = Piece names app ts f

  abbrev Operands : List Name → Option Expr → Option Expr → Option Expr → List Token → Type 0
  Operands names cl sl ap ts = (a b c : List Token) × Left AtMost names cl a × Left Plus names sl b
      × Applied names ap c × (ts ≡ a ++ (b ++ c))

  -- the tokens that opened the frames
  abbrev Before : List Frame → List Token → Type 0
  Before [] ts = ts ≡ []
  Before (paren cl sl ap ∷ k) ts = (a b : List Token) × Before k a × Operands (scope book k) cl sl ap b
      × (ts ≡ a ++ (b ++ mark Open ∷ []))
  Before (fun_body x ∷ k) ts = (a : List Token) × Before k a × (ts ≡ a ++ mark Fun ∷ name x ∷ mark Arrow ∷ [])
  Before (let_bound x ∷ k) ts = (a : List Token) × Before k a × (ts ≡ a ++ mark Let ∷ name x ∷ mark Equals ∷ [])
  Before (let_body x e ∷ k) ts = (a b : List Token) × Before k a × Piece (scope book k) expr b e
      × (ts ≡ a ++ mark Let ∷ name x ∷ mark Equals ∷ (b ++ mark In ∷ []))
  Before (condition ∷ k) ts = (a : List Token) × Before k a × (ts ≡ a ++ mark If ∷ [])
  Before (then_branch e ∷ k) ts = (a b : List Token) × Before k a × Piece (scope book k) expr b e
      × (ts ≡ a ++ mark If ∷ (b ++ mark Then ∷ []))
  Before (else_branch e f ∷ k) ts = (a b c : List Token) × Before k a × Piece (scope book k) expr b e
      × Piece (scope book k) expr c f × (ts ≡ a ++ mark If ∷ (b ++ mark Then ∷ (c ++ mark Else ∷ [])))

  -- the tokens that lead to a state
  abbrev pub Spelled : State → List Token → Type 0
  Spelled (operand cl sl ap k) ts = (a b : List Token) × Before k a × Operands (scope book k) cl sl ap b × (ts ≡ a ++ b)
  Spelled (fun_name k) ts = (a : List Token) × Before k a × (ts ≡ a ++ mark Fun ∷ [])
  Spelled (fun_arrow x k) ts = (a : List Token) × Before k a × (ts ≡ a ++ mark Fun ∷ name x ∷ [])
  Spelled (let_name k) ts = (a : List Token) × Before k a × (ts ≡ a ++ mark Let ∷ [])
  Spelled (let_equals x k) ts = (a : List Token) × Before k a × (ts ≡ a ++ mark Let ∷ name x ∷ [])
  Spelled (accepted e) ts = (a : List Token) × Piece book expr a e × (ts ≡ a ++ end ∷ [])

  abbrev pub Kept : Outcome → List Token → Type 0
  Kept (go s) ts = Spelled s ts
  Kept stuck ts = Unit {0}
  Kept unknown ts = Unit {0}

  -- a new expression after what opened its frames
  new : (k : List Frame) (ts : List Token) → Before k ts → Spelled (start k) ts
  new k ts b = (ts, [], b, ([], [], [], refl, refl, refl, refl), sym (append-nil ts))

  -- the operands of one comparison are its tokens
  summed_piece : (names : List Name) (sl : Option Expr) (f : Expr) (b c : List Token) → Left Plus names sl b
      → Piece names app c f → Piece names sum (b ++ c) (summed sl f)
  summed_piece names none f b c e p = subst (λ l. Piece names sum (l ++ c) f) (sym e) (Grammar.only_app p.0, p.1)
  summed_piece names (some l) f b c e p =
      subst (λ ts. Piece names sum ts (plus l f)) (sym (ap (λ u. u ++ c) e.1 ∙ append_assoc e.0 (mark Plus ∷ []) c))
      (Grammar.sum_plus e.2.0 p.0, (e.2.1, p.1))

  compared_piece : (names : List Name) (cl : Option Expr) (f : Expr) (a c : List Token) → Left AtMost names cl a
      → Piece names sum c f → Piece names expr (a ++ c) (compared cl f)
  compared_piece names none f a c e p = subst (λ l. Piece names expr (l ++ c) f) (sym e)
      (Grammar.only_cmp (Grammar.only_sum p.0), p.1)
  compared_piece names (some l) f a c e p =
      subst (λ ts. Piece names expr ts (at_most l f))
      (sym (ap (λ u. u ++ c) e.1 ∙ append_assoc e.0 (mark AtMost ∷ []) c))
      (Grammar.only_cmp (Grammar.sum_at_most e.2.0 p.0), (e.2.1, p.1))

  applied_piece : (names : List Name) (ap : Option Expr) (f : Expr) (a c : List Token) → Applied names ap a
      → Piece names atom c f → Piece names app (a ++ c) (applied ap f)
  applied_piece names none f a c e p = subst (λ l. Piece names app (l ++ c) f) (sym e) (Grammar.only_atom p.0, p.1)
  applied_piece names (some g) f a c e p = (Grammar.app_atom e.0 p.0, (e.1, p.1))

  operands_piece : (names : List Name) (cl sl : Option Expr) (f : Expr) (ts : List Token)
      → Operands names cl sl (some f) ts → Piece names expr ts (compared cl (summed sl f))
  operands_piece names cl sl f ts o =
      subst (λ u. Piece names expr u (compared cl (summed sl f))) (sym o.6) (compared_piece names cl (summed sl f) o.0
      (o.1 ++ o.2) o.3 (summed_piece names sl f o.1 o.2 o.4 o.5))

  -- one more atom
  more : (names : List Name) (cl sl ap : Option Expr) (f : Expr) (ts c : List Token) → Operands names cl sl ap ts
      → Piece names atom c f → Operands names cl sl (some (applied ap f)) (ts ++ c)
  more names cl sl ap f ts c o p = (
    o.0,
    o.1,
    o.2 ++ c,
    o.3,
    o.4,
    applied_piece names ap f o.2 c o.5 p,
    rw o.6 (simp append_assoc),
  )

  kept_if : (b : Bool) (s : State) (ts : List Token) → (b ≡ true → Spelled s ts) → Kept (cond b (go s) stuck) ts
  kept_if true s ts h = h refl
  kept_if false s ts h = tt

  -- a mark that was asked for, after what stands before it
  then_mark : (m : Mark) (t : Token) (s : State) (ts : List Token) → Spelled s (ts ++ mark m ∷ [])
      → Kept (cond (is m t) (go s) stuck) (ts ++ t ∷ [])
  then_mark m t s ts h = kept_if (is m t) s (ts ++ t ∷ []) (λ e. subst (λ u. Spelled s (ts ++ u ∷ []))
      (sym (is_mark m t e)) h)

  end_kept : (t : Token) (e : Expr) (ts : List Token) → Piece book expr ts e
      → Kept (cond (is_end t) (go (accepted e)) stuck) (ts ++ t ∷ [])
  end_kept (mark m) e ts p = tt
  end_kept (name x) e ts p = tt
  end_kept (numeral z) e ts p = tt
  end_kept end e ts p = (ts, p, refl)

  close_kept : (k : List Frame) (t : Token) (e : Expr) (a b ts : List Token) → Before k a
      → Piece (scope book k) expr b e → ts ≡ a ++ b → Kept (close t e k) (ts ++ t ∷ [])
  close_kept [] t e a b ts o p q = end_kept t e ts (subst (λ u. Piece book expr u e) (sym (q ∙ ap (λ u. u ++ b) o)) p)
  close_kept (paren cl sl ap ∷ k) t e a b ts o p q =
      then_mark Close t (operand cl sl (some (applied ap e)) k) ts (
        o.0,
        o.1 ++ (mark Open ∷ (b ++ mark Close ∷ [])),
        o.2,
        more (scope book k) cl sl ap e o.1 (mark Open ∷ (b ++ mark Close ∷ [])) o.3 (Grammar.in_parentheses p.0, p.1),
        rw (q, o.4) (simp append_assoc),
      )
  close_kept (fun_body x ∷ k) t e a b ts o p q = close_kept k t (lambda x e) o.0 (mark Fun ∷ name x ∷ mark Arrow ∷ b)
      ts o.1 (Grammar.fun_arrow p.0, p.1) (rw (q, o.2) (simp append_assoc))
  close_kept (let_bound x ∷ k) t e a b ts o p q = then_mark In t (start (let_body x e ∷ k)) ts
      (new (let_body x e ∷ k) (ts ++ mark In ∷ []) (o.0, b, o.1, p, rw (q, o.2) (simp append_assoc)))
  close_kept (let_body x f ∷ k) t e a b ts o p q =
      close_kept k t (let_in x f e) o.0 (mark Let ∷ name x ∷ mark Equals ∷ (o.1 ++ mark In ∷ b)) ts o.2
      (Grammar.let_equals_in o.3.0 p.0, (o.3.1, p.1)) (rw (q, o.4) (simp append_assoc))
  close_kept (condition ∷ k) t e a b ts o p q = then_mark Then t (start (then_branch e ∷ k)) ts
      (new (then_branch e ∷ k) (ts ++ mark Then ∷ []) (o.0, b, o.1, p, rw (q, o.2) (simp append_assoc)))
  close_kept (then_branch c ∷ k) t e a b ts o p q =
      then_mark Else t (start (else_branch c e ∷ k)) ts (new (else_branch c e ∷ k) (ts ++ mark Else ∷ []) (
        o.0,
        o.1,
        b,
        o.2,
        o.3,
        p,
        rw (q, o.4) (simp append_assoc),
      ))
  close_kept (else_branch c f ∷ k) t e a b ts o p q =
      close_kept k t (if_else c f e) o.0 (mark If ∷ (o.1 ++ mark Then ∷ (o.2 ++ mark Else ∷ b))) ts o.3
      (Grammar.if_then_else o.4.0 o.5.0 p.0, (o.4.1, (o.5.1, p.1))) (rw (q, o.6) (simp append_assoc))

  closed_kept : (t : Token) (cl sl ap : Option Expr) (k : List Frame) (ts : List Token)
      → Spelled (operand cl sl ap k) ts → Kept (closed t cl sl ap k) (ts ++ t ∷ [])
  closed_kept t cl sl none k ts h = tt
  closed_kept t cl sl (some f) k ts h = close_kept k t (compared cl (summed sl f)) h.0 h.1 ts h.2
      (operands_piece (scope book k) cl sl f h.1 h.3) h.4

  fresh_kept : (cl sl ap : Option Expr) (k : List Frame) (ts : List Token) (s : State) (t : Token)
      → Spelled (operand cl sl ap k) ts → ((a : List Token) → Before k a → ts ≡ a → Spelled s (ts ++ t ∷ []))
      → Kept (fresh cl sl ap s) (ts ++ t ∷ [])
  fresh_kept none none none k ts s t h f =
      f h.0 h.2 (h.4 ∙ ap (λ u. h.0 ++ u) (h.3.6 ∙ ap (λ u. u ++ (h.3.1 ++ h.3.2)) h.3.3 ∙ ap (λ u. u ++ h.3.2) h.3.4
      ∙ h.3.5) ∙ append-nil h.0)
  fresh_kept none none (some g) k ts s t h f = tt
  fresh_kept none (some l) ap k ts s t h f = tt
  fresh_kept (some l) sl ap k ts s t h f = tt

  added_kept : (cl sl ap : Option Expr) (k : List Frame) (ts : List Token) → Spelled (operand cl sl ap k) ts
      → Kept (added cl sl ap k) (ts ++ mark Plus ∷ [])
  added_kept cl sl none k ts h = tt
  added_kept cl sl (some f) k ts h =
      let o = h.3 in
      let names = scope book k in (
        h.0,
        h.1 ++ mark Plus ∷ [],
        h.2,
        (
          o.0,
          (o.1 ++ o.2) ++ mark Plus ∷ [],
          [],
          o.3,
          (o.1 ++ o.2, refl, summed_piece names sl f o.1 o.2 o.4 o.5),
          refl,
          rw o.6 (simp (append_assoc, append-nil)),
        ),
        rw h.4 (simp append_assoc),
      )

  measured_kept : (cl sl ap : Option Expr) (k : List Frame) (ts : List Token) → Spelled (operand cl sl ap k) ts
      → Kept (measured cl sl ap k) (ts ++ mark AtMost ∷ [])
  measured_kept cl sl none k ts h = tt
  measured_kept none sl (some f) k ts h =
      let o = h.3 in
      let names = scope book k in (
        h.0,
        h.1 ++ mark AtMost ∷ [],
        h.2,
        (
          (o.1 ++ o.2) ++ mark AtMost ∷ [],
          [],
          [],
          (o.1 ++ o.2, refl, summed_piece names sl f o.1 o.2 o.4 o.5),
          refl,
          refl,
          rw (o.6, o.3) (simp (append_assoc, append-nil)),
        ),
        rw h.4 (simp append_assoc),
      )
  measured_kept (some l) sl (some f) k ts h = tt

  atom_kept : (cl sl ap : Option Expr) (k : List Frame) (ts : List Token) (t : Token) (e : Expr)
      → Spelled (operand cl sl ap k) ts → Piece (scope book k) atom (t ∷ []) e
      → Spelled (operand cl sl (some (applied ap e)) k) (ts ++ t ∷ [])
  atom_kept cl sl ap k ts t e h p = (
    h.0,
    h.1 ++ t ∷ [],
    h.2,
    more (scope book k) cl sl ap e h.1 (t ∷ []) h.3 p,
    rw h.4 (simp append_assoc),
  )

  mark_kept : (cl sl ap : Option Expr) (k : List Frame) (m : Mark) (ts : List Token) → Spelled (operand cl sl ap k) ts
      → Kept (at_mark cl sl ap k m) (ts ++ mark m ∷ [])
  mark_kept cl sl ap k Fun ts h = fresh_kept cl sl ap k ts (fun_name k) (mark Fun) h (λ a b e. (a, b, rw e))
  mark_kept cl sl ap k Let ts h = fresh_kept cl sl ap k ts (let_name k) (mark Let) h (λ a b e. (a, b, rw e))
  mark_kept cl sl ap k In ts h = closed_kept (mark In) cl sl ap k ts h
  mark_kept cl sl ap k If ts h = fresh_kept cl sl ap k ts (start (condition ∷ k)) (mark If) h
      (λ a b e. new (condition ∷ k) (ts ++ mark If ∷ []) (a, b, rw e))
  mark_kept cl sl ap k Then ts h = closed_kept (mark Then) cl sl ap k ts h
  mark_kept cl sl ap k Else ts h = closed_kept (mark Else) cl sl ap k ts h
  mark_kept cl sl ap k True ts h = atom_kept cl sl ap k ts (mark True) (boolean true) h (Grammar.a_true, tt)
  mark_kept cl sl ap k False ts h = atom_kept cl sl ap k ts (mark False) (boolean false) h (Grammar.a_false, tt)
  mark_kept cl sl ap k Arrow ts h = closed_kept (mark Arrow) cl sl ap k ts h
  mark_kept cl sl ap k Equals ts h = closed_kept (mark Equals) cl sl ap k ts h
  mark_kept cl sl ap k AtMost ts h = measured_kept cl sl ap k ts h
  mark_kept cl sl ap k Plus ts h = added_kept cl sl ap k ts h
  mark_kept cl sl ap k Open ts h = new (paren cl sl ap ∷ k) (ts ++ mark Open ∷ []) (
    h.0,
    h.1,
    h.2,
    h.3,
    rw h.4 (simp append_assoc),
  )
  mark_kept cl sl ap k Close ts h = closed_kept (mark Close) cl sl ap k ts h

  name_kept : (b : Bool) (s : State) (ts : List Token) → (b ≡ true → Spelled s ts) → Kept (cond b (go s) unknown) ts
  name_kept true s ts h = h refl
  name_kept false s ts h = tt

  binder_kept : (s : Name → State) (t : Token) (ts : List Token) → ((x : Name) → Spelled (s x) (ts ++ name x ∷ []))
      → Kept (at_binder s t) (ts ++ t ∷ [])
  binder_kept s (mark m) ts h = tt
  binder_kept s (name x) ts h = h x
  binder_kept s (numeral z) ts h = tt
  binder_kept s end ts h = tt

  step_kept : (s : State) (t : Token) (ts : List Token) → Spelled s ts → Kept (step allowed book s t) (ts ++ t ∷ [])
  step_kept (operand cl sl ap k) (mark m) ts h = mark_kept cl sl ap k m ts h
  step_kept (operand cl sl ap k) (name x) ts h = name_kept (allowed (scope book k) x)
      (operand cl sl (some (applied ap (used x))) k) (ts ++ name x ∷ []) (λ e. atom_kept cl sl ap k ts (name x)
      (used x) h (Grammar.a_name, e))
  step_kept (operand cl sl ap k) (numeral z) ts h = atom_kept cl sl ap k ts (numeral z) (literal z) h
      (Grammar.a_number, tt)
  step_kept (operand cl sl ap k) end ts h = closed_kept end cl sl ap k ts h
  step_kept (fun_name k) t ts h = binder_kept (λ x. fun_arrow x k) t ts (λ x. (h.0, h.1, rw h.2 (simp append_assoc)))
  step_kept (fun_arrow x k) t ts h = then_mark Arrow t (start (fun_body x ∷ k)) ts
      (new (fun_body x ∷ k) (ts ++ mark Arrow ∷ []) (h.0, h.1, rw h.2 (simp append_assoc)))
  step_kept (let_name k) t ts h = binder_kept (λ x. let_equals x k) t ts (λ x. (h.0, h.1, rw h.2 (simp append_assoc)))
  step_kept (let_equals x k) t ts h = then_mark Equals t (start (let_bound x ∷ k)) ts
      (new (let_bound x ∷ k) (ts ++ mark Equals ∷ []) (h.0, h.1, rw h.2 (simp append_assoc)))
  step_kept (accepted e) t ts h = tt

  run_kept : (us : List Token) (s : State) (ts : List Token) → Spelled s ts → Kept (run allowed book s us) (ts ++ us)
  run_kept [] s ts h = subst (Spelled s) (sym (append-nil ts)) h
  run_kept (u ∷ us) s ts h = on (step allowed book s u) (step_kept s u ts h) (λ s'. run_kept us s' (ts ++ u ∷ []))
    where
      on : (o : Outcome) → Kept o (ts ++ u ∷ []) → ((s' : State) → Spelled s' (ts ++ u ∷ [])
          → Kept (run allowed book s' us) ((ts ++ u ∷ []) ++ us)) → Kept (and_then o (λ s'. run allowed book s' us))
          (ts ++ u ∷ us)
      on (go s') k f = subst (Kept (run allowed book s' us)) (append_assoc ts (u ∷ []) us) (f s' k)
      on stuck k f = tt
      on unknown k f = tt

  -- from the start, all that was read is spelled by the state
  pub spelled : (ts : List Token) (s : State) → run allowed book (start []) ts ≡ go s → Spelled s ts
  spelled ts s h = subst (λ o. Kept o ts) h (run_kept ts (start []) [] (new [] [] refl))
