-- The automaton goes through every derivation: what derives is read without getting stuck, and to
-- the derivation's tree.
use Rattle.std.proofs.Common.{◌≡◌, Bool, List, [], ◌∷◌, ◌++◌, sym, refl, ap, ◌∙◌, append_assoc}
use mathlib.Core.Option.{Option, some, none}
use Rattle.grammar.specs.declared.Mark.TheVariants.{In, Then, Else, AtMost, Plus, Close}
use Rattle.grammar.specs.Token.{Name, Token, mark, end}
use Rattle.grammar.specs.Grammar
use Rattle.grammar.specs.Grammar.{Expr, literal, boolean, used, lambda, apply, let_in, plus, at_most, if_else, Class}
use Rattle.grammar.specs.Grammar.{expr, cmp, sum, app, atom, Derives}
use Rattle.grammar.specs.Automaton.{Frame, paren, fun_body, let_bound, let_body, condition, then_branch, else_branch}
use Rattle.grammar.specs.Automaton.{State, operand, Outcome, go, stuck, unknown, applied, summed, compared, start}
use Rattle.grammar.specs.Automaton.{close, scope, and_then, step, run, Fits}

-- a token that ends an expression
pub data Ender : Token → Type 0 where
  in_ends : Ender (mark In)
  then_ends : Ender (mark Then)
  else_ends : Ender (mark Else)
  close_ends : Ender (mark Close)
  end_ends : Ender end

assoc₁ : (a : List Token) (t : Token) (b : List Token) → a ++ t ∷ b ≡ (a ++ t ∷ []) ++ b
assoc₁ a t b = sym (append_assoc a (t ∷ []) b)

assoc₂ : (a : List Token) (t : Token) (b : List Token) (u : Token) → (a ++ t ∷ b) ++ u ∷ [] ≡ (a ++ t ∷ []) ++
    (b ++ u ∷ [])
assoc₂ a t b u = simp append_assoc

module _ (allowed : List Name → Name → Bool) (book : List Name) where
  bind_run : (o : Outcome) (ts us : List Token) → ((s : State) → run allowed book s (ts ++ us) ≡ and_then
      (run allowed book s ts) (λ s'. run allowed book s' us))
      → and_then o (λ s'. run allowed book s' (ts ++ us)) ≡ and_then (and_then o (λ s'. run allowed book s' ts))
      (λ s'. run allowed book s' us)
  bind_run (go s) ts us later = later s
  bind_run stuck ts us later = refl
  bind_run unknown ts us later = refl

  -- run over two lists is one run after the other
  pub run-++ : (ts us : List Token) (s : State) → run allowed book s (ts ++ us) ≡ and_then (run allowed book s ts)
      (λ s'. run allowed book s' us)
  run-++ [] us s = refl
  run-++ (t ∷ ts) us s = bind_run (step allowed book s t) ts us (run-++ ts us)

  -- one run, then another from where it stopped
  pub run_from : (s : State) {s' : State} (ts us : List Token) → run allowed book s ts ≡ go s'
      → run allowed book s (ts ++ us) ≡ run allowed book s' us
  run_from s ts us h = run-++ ts us s ∙ ap (λ o. and_then o (λ s''. run allowed book s'' us)) h

  pub run_snoc : (s : State) {s' : State} (ts : List Token) (t : Token) → run allowed book s ts ≡ go s'
      → run allowed book s (ts ++ t ∷ []) ≡ step allowed book s' t
  run_snoc s {s'} ts t h = run_from s ts (t ∷ []) h ∙ bind_go (step allowed book s' t)
    where
      bind_go : (o : Outcome) → and_then o go ≡ o
      bind_go (go s) = refl
      bind_go stuck = refl
      bind_go unknown = refl

  pub step_ender : {t : Token} → Ender t → (cl sl : Option Expr) (f : Expr) (k : List Frame)
      → step allowed book (operand cl sl (some f) k) t ≡ close t (compared cl (summed sl f)) k
  step_ender in_ends cl sl f k = refl
  step_ender then_ends cl sl f k = refl
  step_ender else_ends cl sl f k = refl
  step_ender close_ends cl sl f k = refl
  step_ender end_ends cl sl f k = refl

  -- what reading the tokens of a class does to the state, whatever is open around it
  abbrev pub ReadsTo : Class → List Token → Expr → Type 0
  ReadsTo expr ts e = (k : List Frame) → Fits allowed book (scope book k) e → (t : Token) → Ender t
      → run allowed book (start k) (ts ++ t ∷ []) ≡ close t e k
  ReadsTo cmp ts e = (k : List Frame) → Fits allowed book (scope book k) e → (cl sl : Option Expr) × (f : Expr)
      × (run allowed book (start k) ts ≡ go (operand cl sl (some f) k)) × (compared cl (summed sl f) ≡ e)
  ReadsTo sum ts e = (cl : Option Expr) (k : List Frame) → Fits allowed book (scope book k) e → (sl : Option Expr)
      × (f : Expr) × (run allowed book (operand cl none none k) ts ≡ go (operand cl sl (some f) k)) × (summed sl f ≡ e)
  ReadsTo app ts e = (cl sl : Option Expr) (k : List Frame) → Fits allowed book (scope book k) e
      → run allowed book (operand cl sl none k) ts ≡ go (operand cl sl (some e) k)
  ReadsTo atom ts e = (cl sl ap : Option Expr) (k : List Frame) → Fits allowed book (scope book k) e
      → run allowed book (operand cl sl ap k) ts ≡ go (operand cl sl (some (applied ap e)) k)

  pub reads_to : {c : Class} {ts : List Token} {e : Expr} → Derives c ts e → ReadsTo c ts e
  reads_to (Grammar.fun_arrow {x} {b} d) = λ k h t n. reads_to d (fun_body x ∷ k) h t n
  reads_to (Grammar.let_equals_in {x} {a} {b} {e} {f} d d') = λ k h t n.
      let first : run allowed book (start (let_bound x ∷ k)) (a ++ mark In ∷ []) ≡ go (start (let_body x e ∷ k)) =
      reads_to d (let_bound x ∷ k) h.0 (mark In) in_ends in
      let later : run allowed book (start (let_body x e ∷ k)) (b ++ t ∷ []) ≡ close t (let_in x e f) k =
      reads_to d' (let_body x e ∷ k) h.1 t n in
      ap (run allowed book (start (let_bound x ∷ k))) (assoc₂ a (mark In) b t) ∙ run_from (start (let_bound x ∷ k))
      (a ++ mark In ∷ []) (b ++ t ∷ []) first ∙ later
  reads_to (Grammar.if_then_else {a} {b} {c} {e} {f} {g} d d' d'') = λ k h t n.
      let first : run allowed book (start (condition ∷ k)) (a ++ mark Then ∷ []) ≡ go (start (then_branch e ∷ k)) =
      reads_to d (condition ∷ k) h.0 (mark Then) then_ends in
      let second : run allowed book (start (then_branch e ∷ k)) (b ++ mark Else ∷ []) ≡ go
      (start (else_branch e f ∷ k)) = reads_to d' (then_branch e ∷ k) h.1.0 (mark Else) else_ends in
      let third : run allowed book (start (else_branch e f ∷ k)) (c ++ t ∷ []) ≡ close t (if_else e f g) k =
      reads_to d'' (else_branch e f ∷ k) h.1.1 t n in
      ap (run allowed book (start (condition ∷ k))) (assoc₂ a (mark Then) (b ++ mark Else ∷ c) t)
      ∙ run_from (start (condition ∷ k)) (a ++ mark Then ∷ []) ((b ++ mark Else ∷ c) ++ t ∷ []) first
      ∙ ap (run allowed book (start (then_branch e ∷ k))) (assoc₂ b (mark Else) c t)
      ∙ run_from (start (then_branch e ∷ k)) (b ++ mark Else ∷ []) (c ++ t ∷ []) second ∙ third
  reads_to (Grammar.only_cmp {a} {e} d) = λ k h t n.
      let r = reads_to d k h in
      run_snoc (start k) a t r.3 ∙ step_ender n r.0 r.1 r.2 k ∙ ap (λ x. close t x k) r.4
  reads_to (Grammar.only_sum d) = λ k h. let r = reads_to d none k h in (none, r.0, r.1, r.2, r.3)
  reads_to (Grammar.sum_at_most {a} {b} {e} {f} d d') = λ k h.
      let r = reads_to d none k h.0 in
      let r' = reads_to d' (some e) k h.1 in
      let over : run allowed book (start k) (a ++ mark AtMost ∷ []) ≡ go (operand (some e) none none k) =
      run_snoc (start k) a (mark AtMost) r.2 ∙ ap (λ x. go (operand (some x) none none k)) r.3 in (
        some e,
        r'.0,
        r'.1,
        ap (run allowed book (start k)) (assoc₁ a (mark AtMost) b)
            ∙ run_from (start k) (a ++ mark AtMost ∷ []) b over ∙ r'.2,
        ap (at_most e) r'.3,
      )
  reads_to (Grammar.only_app {a} {e} d) = λ cl k h. (none, e, reads_to d cl none k h, refl)
  reads_to (Grammar.sum_plus {a} {b} {e} {f} d d') = λ cl k h.
      let r = reads_to d cl k h.0 in
      let r' = reads_to d' cl (some e) k h.1 in
      let over : run allowed book (operand cl none none k) (a ++ mark Plus ∷ []) ≡ go (operand cl (some e) none k) =
      run_snoc (operand cl none none k) a (mark Plus) r.2 ∙ ap (λ x. go (operand cl (some x) none k)) r.3 in (
        some e,
        f,
        ap (run allowed book (operand cl none none k)) (assoc₁ a (mark Plus) b)
            ∙ run_from (operand cl none none k) (a ++ mark Plus ∷ []) b over ∙ r',
        refl,
      )
  reads_to (Grammar.only_atom d) = λ cl sl k h. reads_to d cl sl none k h
  reads_to (Grammar.app_atom {a} {b} {e} {f} d d') = λ cl sl k h. run_from (operand cl sl none k) a b
      (reads_to d cl sl k h.0) ∙ reads_to d' cl sl (some e) k h.1
  reads_to Grammar.a_number = λ cl sl a' k h. refl
  reads_to Grammar.a_true = λ cl sl a' k h. refl
  reads_to Grammar.a_false = λ cl sl a' k h. refl
  reads_to (Grammar.a_name {x}) = λ cl sl a' k h. rw h refl
  reads_to (Grammar.in_parentheses {a} {e} d) = λ cl sl a' k h. reads_to d (paren cl sl a' ∷ k) h
      (mark Close) close_ends
