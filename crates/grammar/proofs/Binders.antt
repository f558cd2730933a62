-- `fun`, `let` and `if`, part by part.
use Rattle.std.proofs.Common.{◌≡◌, ℕ, true, cond, List, [], ◌∷◌, sym, refl, ap, ◌∙◌, true≢false}
use Rattle.grammar.specs.declared.Mark.{Mark}
use Rattle.grammar.specs.declared.Mark.TheVariants.{Fun, Let, In, If, Then, Else, Arrow, Equals}
use Rattle.grammar.specs.Token.{Name, Token, mark, name, numeral, end, is}
use Rattle.grammar.specs.Grammar.{Expr, lambda, let_in, if_else}
use Rattle.grammar.specs.Reading.{part}
use Rattle.grammar.specs.Automaton.{Frame, fun_body, let_bound, let_body, condition, then_branch, else_branch, State}
use Rattle.grammar.specs.Automaton.{fun_name, fun_arrow, let_name, let_equals, go, stuck, is_end, start, at_binder}
use Rattle.grammar.specs.Automaton.{step, in_force}
use Rattle.grammar.specs.Walking.{Stand, Current, Went, Unread, Missed, is_name}
use Rattle.grammar.specs.Classes.{ReadExpr, RefusedExpr}
use Rattle.grammar.proofs.Walking.{mark_on, name_on}
use Rattle.grammar.proofs.Classes.{Partly, partly_here, partly_over, partly_asked, partly_missed, partly_unread}
use Rattle.grammar.proofs.Classes.{partly_refused, partly_last, partly_turn, partly_turn_missed}

-- the bytes of a name token
abbrev pub name_of : Token → Name
name_of (mark m) = []
name_of (name x) = x
name_of (numeral z) = []
name_of end = []

binder_step : (f : Name → State) (t : Token) → at_binder f t ≡ cond (is_name t) (go (f (name_of t))) stuck
binder_step f (mark m) = refl
binder_step f (name x) = refl
binder_step f (numeral z) = refl
binder_step f end = refl

named_token : (t : Token) → is_name t ≡ true → t ≡ name (name_of t)
named_token (mark m) h = absurd (true≢false (sym h))
named_token (name x) h = refl
named_token (numeral z) h = absurd (true≢false (sym h))
named_token end h = absurd (true≢false (sym h))

-- they are its part of the text
pub name_part : (s : List ℕ) (p : Stand) → Current s p → is_name p.token ≡ true
    → name_of p.token ≡ part s p.place p.stop
name_part s p c h = c.named (name_of p.token) (named_token p.token h)

module _ (book names : List Name) (s : List ℕ) where
  -- `fun` or `let`, up to the name
  module _ (m : Mark) (named : List Frame → State) (opens : (k : List Frame) → step in_force book (start k)
      (mark m) ≡ go (named k)) where
    open_step : (p : Stand) → p.token ≡ mark m → (k : List Frame) → step in_force book (start k) p.token ≡ go (named k)
    open_step p t k = ap (step in_force book (start k)) t ∙ opens k

    pub begun : (p q : Stand) → p.token ≡ mark m → Went s p q → Partly book names s p q named
    begun p q t w = partly_over book names s p p q start named (partly_here book names s p) (ap is_end t) w
        (open_step p t)

    pub begun_unread : (p : Stand) (n place : ℕ) → p.token ≡ mark m → Unread s p.stop n place
        → RefusedExpr book names s p n place
    begun_unread p n place t u = partly_unread book names s p p start named n place (partly_here book names s p)
        (ap is_end t) (open_step p t) u

    -- the name, and the sign behind it
    module _ (after : Name → List Frame → State) (binds : (k : List Frame) (t : Token)
        → step in_force book (named k) t ≡ at_binder (λ x. after x k) t) where
      pub begun_unnamed : (p q : Stand) (n place : ℕ) → p.token ≡ mark m → Went s p q → Missed is_name s q n place
          → RefusedExpr book names s p n place
      begun_unnamed p q n place t w u =
          partly_missed book names s is_name name_on p q named (after (name_of q.token)) n place (begun p q t w)
          (λ k. binds k q.token ∙ binder_step (λ x. after x k) q.token) u

      pub begun_named : (p q r : Stand) → p.token ≡ mark m → Went s p q → is_name q.token ≡ true → Went s q r
          → Partly book names s p r (after (name_of q.token))
      begun_named p q r t w h v =
          partly_asked book names s is_name name_on p q r named (after (name_of q.token)) (begun p q t w)
          (λ k. binds k q.token ∙ binder_step (λ x. after x k) q.token) h v

      module _ (sign : Mark) (frame : Name → Frame) (signs : (x : Name) (k : List Frame) (t : Token)
          → step in_force book (after x k) t ≡ cond (is sign t) (go (start (frame x ∷ k))) stuck) where
        pub begun_unsigned : (p q r : Stand) (n place : ℕ) → p.token ≡ mark m → Went s p q → is_name q.token ≡ true
            → Went s q r → Missed (is sign) s r n place → RefusedExpr book names s p n place
        begun_unsigned p q r n place t w h v u =
            partly_missed book names s (is sign) (mark_on sign) p r (after (name_of q.token))
            (λ k. start (frame (name_of q.token) ∷ k)) n place (begun_named p q r t w h v)
            (λ k. signs (name_of q.token) k r.token) u

        pub begun_signed : (p q r u : Stand) → p.token ≡ mark m → Went s p q → is_name q.token ≡ true → Went s q r
            → is sign r.token ≡ true → Went s r u → Partly book names s p u (λ k. start (frame (name_of q.token) ∷ k))
        begun_signed p q r u t w h v g y =
            partly_asked book names s (is sign) (mark_on sign) p r u (after (name_of q.token))
            (λ k. start (frame (name_of q.token) ∷ k)) (begun_named p q r t w h v)
            (λ k. signs (name_of q.token) k r.token) g y

  -- ── fun ──

  pub fun_unread : (p : Stand) (n place : ℕ) → p.token ≡ mark Fun → Unread s p.stop n place
      → RefusedExpr book names s p n place
  fun_unread = begun_unread Fun fun_name (λ k. refl)

  pub fun_unnamed : (p q : Stand) (n place : ℕ) → p.token ≡ mark Fun → Went s p q → Missed is_name s q n place
      → RefusedExpr book names s p n place
  fun_unnamed = begun_unnamed Fun fun_name (λ k. refl) fun_arrow (λ k t. refl)

  pub fun_unsigned : (p q r : Stand) (n place : ℕ) → p.token ≡ mark Fun → Went s p q → is_name q.token ≡ true
      → Went s q r → Missed (is Arrow) s r n place → RefusedExpr book names s p n place
  fun_unsigned = begun_unsigned Fun fun_name (λ k. refl) fun_arrow (λ k t. refl) Arrow fun_body (λ x k t. refl)

  fun_signed : (p q r u : Stand) → p.token ≡ mark Fun → Went s p q → is_name q.token ≡ true → Went s q r
      → is Arrow r.token ≡ true → Went s r u → Partly book names s p u (λ k. start (fun_body (name_of q.token) ∷ k))
  fun_signed = begun_signed Fun fun_name (λ k. refl) fun_arrow (λ k t. refl) Arrow fun_body (λ x k t. refl)

  module _ (p q r u : Stand) (t : p.token ≡ mark Fun) (w : Went s p q) (h : is_name q.token ≡ true) (v : Went s q r)
      (g : is Arrow r.token ≡ true) (y : Went s r u) where
    pub fun_refused : (n place : ℕ) → RefusedExpr book (name_of q.token ∷ names) s u n place
        → RefusedExpr book names s p n place
    fun_refused n place x = partly_refused book names s (name_of q.token ∷ names) (fun_body (name_of q.token))
        (λ k e. ap (λ l. name_of q.token ∷ l) e) p u n place (fun_signed p q r u t w h v g y) x

    pub fun_read : (z : Stand) (e : Expr) → ReadExpr book (name_of q.token ∷ names) s u z e
        → ReadExpr book names s p z (lambda (name_of q.token) e)
    fun_read z e x = partly_last book names s (name_of q.token ∷ names) (fun_body (name_of q.token))
        (λ k d. ap (λ l. name_of q.token ∷ l) d) p u z e (lambda (name_of q.token) e) (fun_signed p q r u t w h v g y)
        (λ o k. refl) x

  -- ── let ──

  pub let_unread : (p : Stand) (n place : ℕ) → p.token ≡ mark Let → Unread s p.stop n place
      → RefusedExpr book names s p n place
  let_unread = begun_unread Let let_name (λ k. refl)

  pub let_unnamed : (p q : Stand) (n place : ℕ) → p.token ≡ mark Let → Went s p q → Missed is_name s q n place
      → RefusedExpr book names s p n place
  let_unnamed = begun_unnamed Let let_name (λ k. refl) let_equals (λ k t. refl)

  pub let_unsigned : (p q r : Stand) (n place : ℕ) → p.token ≡ mark Let → Went s p q → is_name q.token ≡ true
      → Went s q r → Missed (is Equals) s r n place → RefusedExpr book names s p n place
  let_unsigned = begun_unsigned Let let_name (λ k. refl) let_equals (λ k t. refl) Equals let_bound (λ x k t. refl)

  let_signed : (p q r u : Stand) → p.token ≡ mark Let → Went s p q → is_name q.token ≡ true → Went s q r
      → is Equals r.token ≡ true → Went s r u → Partly book names s p u (λ k. start (let_bound (name_of q.token) ∷ k))
  let_signed = begun_signed Let let_name (λ k. refl) let_equals (λ k t. refl) Equals let_bound (λ x k t. refl)

  module _ (p q r u : Stand) (t : p.token ≡ mark Let) (w : Went s p q) (h : is_name q.token ≡ true) (v : Went s q r)
      (g : is Equals r.token ≡ true) (y : Went s r u) where
    pub let_bound_refused : (n place : ℕ) → RefusedExpr book names s u n place → RefusedExpr book names s p n place
    let_bound_refused n place x = partly_refused book names s names (let_bound (name_of q.token)) (λ k e. e) p u n
        place (let_signed p q r u t w h v g y) x

    module _ (z : Stand) (e : Expr) (x : ReadExpr book names s u z e) where
      pub let_no_in : (n place : ℕ) → Missed (is In) s z n place → RefusedExpr book names s p n place
      let_no_in n place o = partly_turn_missed book names s names (let_bound (name_of q.token)) (λ k d. d) In
          (let_body (name_of q.token) e) e (λ b k. refl) p u z n place (let_signed p q r u t w h v g y) x o

      module _ (z' : Stand) (i : is In z.token ≡ true) (w' : Went s z z') where
        let_turned : Partly book names s p z' (λ k. start (let_body (name_of q.token) e ∷ k))
        let_turned = partly_turn book names s names (let_bound (name_of q.token)) (λ k d. d) In
            (let_body (name_of q.token) e) e (λ b k. refl) p u z z' (let_signed p q r u t w h v g y) x i w'

        pub let_body_refused : (n place : ℕ) → RefusedExpr book (name_of q.token ∷ names) s z' n place
            → RefusedExpr book names s p n place
        let_body_refused n place o = partly_refused book names s (name_of q.token ∷ names)
            (let_body (name_of q.token) e) (λ k d. ap (λ l. name_of q.token ∷ l) d) p z' n place let_turned o

        pub let_read : (a : Stand) (f : Expr) → ReadExpr book (name_of q.token ∷ names) s z' a f
            → ReadExpr book names s p a (let_in (name_of q.token) e f)
        let_read a f o = partly_last book names s (name_of q.token ∷ names) (let_body (name_of q.token) e)
            (λ k d. ap (λ l. name_of q.token ∷ l) d) p z' a f (let_in (name_of q.token) e f) let_turned (λ b k. refl) o

  -- ── if ──

  if_step : (p : Stand) → p.token ≡ mark If → (k : List Frame) → step in_force book (start k) p.token ≡ go
      (start (condition ∷ k))
  if_step p t k = ap (step in_force book (start k)) t

  pub if_unread : (p : Stand) (n place : ℕ) → p.token ≡ mark If → Unread s p.stop n place
      → RefusedExpr book names s p n place
  if_unread p n place t u = partly_unread book names s p p start (λ k. start (condition ∷ k)) n place
      (partly_here book names s p) (ap is_end t) (if_step p t) u

  module _ (p q : Stand) (t : p.token ≡ mark If) (w : Went s p q) where
    if_begun : Partly book names s p q (λ k. start (condition ∷ k))
    if_begun = partly_over book names s p p q start (λ k. start (condition ∷ k)) (partly_here book names s p)
        (ap is_end t) w (if_step p t)

    pub if_condition_refused : (n place : ℕ) → RefusedExpr book names s q n place → RefusedExpr book names s p n place
    if_condition_refused n place x = partly_refused book names s names condition (λ k e. e) p q n place if_begun x

    module _ (r : Stand) (e : Expr) (x : ReadExpr book names s q r e) where
      pub if_no_then : (n place : ℕ) → Missed (is Then) s r n place → RefusedExpr book names s p n place
      if_no_then n place o = partly_turn_missed book names s names condition (λ k d. d) Then (then_branch e) e
          (λ b k. refl) p q r n place if_begun x o

      module _ (u : Stand) (i : is Then r.token ≡ true) (v : Went s r u) where
        if_turned : Partly book names s p u (λ k. start (then_branch e ∷ k))
        if_turned = partly_turn book names s names condition (λ k d. d) Then (then_branch e) e (λ b k. refl) p q r u
            if_begun x i v

        pub if_then_refused : (n place : ℕ) → RefusedExpr book names s u n place → RefusedExpr book names s p n place
        if_then_refused n place o = partly_refused book names s names (then_branch e) (λ k d. d) p u n place if_turned o

        module _ (z : Stand) (f : Expr) (y : ReadExpr book names s u z f) where
          pub if_no_else : (n place : ℕ) → Missed (is Else) s z n place → RefusedExpr book names s p n place
          if_no_else n place o = partly_turn_missed book names s names (then_branch e) (λ k d. d) Else
              (else_branch e f) f (λ b k. refl) p u z n place if_turned y o

          module _ (z' : Stand) (j : is Else z.token ≡ true) (w' : Went s z z') where
            if_turned_again : Partly book names s p z' (λ k. start (else_branch e f ∷ k))
            if_turned_again = partly_turn book names s names (then_branch e) (λ k d. d) Else (else_branch e f) f
                (λ b k. refl) p u z z' if_turned y j w'

            pub if_else_refused : (n place : ℕ) → RefusedExpr book names s z' n place
                → RefusedExpr book names s p n place
            if_else_refused n place o = partly_refused book names s names (else_branch e f) (λ k d. d) p z' n place
                if_turned_again o

            pub if_read : (a : Stand) (g : Expr) → ReadExpr book names s z' a g
                → ReadExpr book names s p a (if_else e f g)
            if_read a g o = partly_last book names s names (else_branch e f) (λ k d. d) p z' a g (if_else e f g)
                if_turned_again (λ b k. refl) o
