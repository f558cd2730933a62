-- How tokens are judged one at a time: a stack of what is open, and one token after another. The
-- contracts inside the parser speak of it. Nobody has to believe it: the laws of `proofs/Judging`
-- say that it goes on exactly as long as the tokens begin a sentence.
use Rattle.std.specs.Prelude.{◌≡◌, ℕ, Bool, true, false, cond, List, [], ◌∷◌}
use Rattle.std.proofs.Math.Option.{Option, some, none}
use Rattle.grammar.specs.declared.Mark.{Mark}
use Rattle.grammar.specs.declared.Mark.TheVariants.{Fun, Let, In, If, Then, Else, True, False, Arrow, Equals, AtMost}
use Rattle.grammar.specs.declared.Mark.TheVariants.{Plus, Open, Close}
use Rattle.grammar.specs.Token.{Name, Token, mark, name, numeral, end, is}
use Rattle.grammar.specs.Names.{distance}
use Rattle.grammar.specs.Grammar.{Expr, literal, boolean, used, lambda, apply, let_in, plus, at_most, if_else}

-- what is open around the expression that is being read
pub data Frame : Type 0 where
  -- a parenthesis, with what stood before it: left of `<=`, left of `+`, what is applied
  paren : Option Expr → Option Expr → Option Expr → Frame
  fun_body : Name → Frame
  let_bound : Name → Frame
  let_body : Name → Expr → Frame
  condition : Frame
  then_branch : Expr → Frame
  else_branch : Expr → Expr → Frame

pub data State : Type 0 where
  -- left of `<=`, left of `+`, what the next atom is an argument of
  operand : Option Expr → Option Expr → Option Expr → List Frame → State
  fun_name : List Frame → State
  fun_arrow : Name → List Frame → State
  let_name : List Frame → State
  let_equals : Name → List Frame → State
  accepted : Expr → State

pub data Outcome : Type 0 where
  go : State → Outcome
  -- no sentence goes on like this
  stuck : Outcome
  -- a used name that is not in force
  unknown : Outcome

abbrev pub applied : Option Expr → Expr → Expr
applied none a = a
applied (some f) a = apply f a

abbrev pub summed : Option Expr → Expr → Expr
summed none e = e
summed (some l) e = plus l e

abbrev pub compared : Option Expr → Expr → Expr
compared none e = e
compared (some l) e = at_most l e

-- a new expression
abbrev pub start : List Frame → State
start k = operand none none none k

-- only a new expression may begin with `fun`, `let` or `if`
abbrev pub fresh : Option Expr → Option Expr → Option Expr → State → Outcome
fresh none none none s = go s
fresh none none (some f) s = stuck
fresh none (some l) ap s = stuck
fresh (some l) sl ap s = stuck

abbrev pub is_end : Token → Bool
is_end (mark m) = false
is_end (name x) = false
is_end (numeral z) = false
is_end end = true

-- an expression is read, and this token is not part of it
abbrev pub close : Token → Expr → List Frame → Outcome
close t e [] = cond (is_end t) (go (accepted e)) stuck
close t e (paren cl sl ap ∷ k) = cond (is Close t) (go (operand cl sl (some (applied ap e)) k)) stuck
close t e (fun_body x ∷ k) = close t (lambda x e) k
close t e (let_bound x ∷ k) = cond (is In t) (go (start (let_body x e ∷ k))) stuck
close t e (let_body x b ∷ k) = close t (let_in x b e) k
close t e (condition ∷ k) = cond (is Then t) (go (start (then_branch e ∷ k))) stuck
close t e (then_branch c ∷ k) = cond (is Else t) (go (start (else_branch c e ∷ k))) stuck
close t e (else_branch c a ∷ k) = close t (if_else c a e) k

-- an operand has to be there before these
abbrev pub closed : Token → Option Expr → Option Expr → Option Expr → List Frame → Outcome
closed t cl sl none k = stuck
closed t cl sl (some f) k = close t (compared cl (summed sl f)) k

abbrev pub added : Option Expr → Option Expr → Option Expr → List Frame → Outcome
added cl sl none k = stuck
added cl sl (some f) k = go (operand cl (some (summed sl f)) none k)

abbrev pub measured : Option Expr → Option Expr → Option Expr → List Frame → Outcome
measured cl sl none k = stuck
measured none sl (some f) k = go (operand (some (summed sl f)) none none k)
measured (some l) sl (some f) k = stuck

abbrev pub at_mark : Option Expr → Option Expr → Option Expr → List Frame → Mark → Outcome
at_mark cl sl ap k Fun = fresh cl sl ap (fun_name k)
at_mark cl sl ap k Let = fresh cl sl ap (let_name k)
at_mark cl sl ap k In = closed (mark In) cl sl ap k
at_mark cl sl ap k If = fresh cl sl ap (start (condition ∷ k))
at_mark cl sl ap k Then = closed (mark Then) cl sl ap k
at_mark cl sl ap k Else = closed (mark Else) cl sl ap k
at_mark cl sl ap k True = go (operand cl sl (some (applied ap (boolean true))) k)
at_mark cl sl ap k False = go (operand cl sl (some (applied ap (boolean false))) k)
at_mark cl sl ap k Arrow = closed (mark Arrow) cl sl ap k
at_mark cl sl ap k Equals = closed (mark Equals) cl sl ap k
at_mark cl sl ap k AtMost = measured cl sl ap k
at_mark cl sl ap k Plus = added cl sl ap k
at_mark cl sl ap k Open = go (start (paren cl sl ap ∷ k))
at_mark cl sl ap k Close = closed (mark Close) cl sl ap k

abbrev pub at_binder : (Name → State) → Token → Outcome
at_binder s (mark m) = stuck
at_binder s (name x) = go (s x)
at_binder s (numeral z) = stuck
at_binder s end = stuck

-- the names that the open frames have in force, before those of the book
abbrev pub scope : List Name → List Frame → List Name
scope book [] = book
scope book (paren cl sl ap ∷ k) = scope book k
scope book (fun_body x ∷ k) = x ∷ scope book k
scope book (let_bound x ∷ k) = scope book k
scope book (let_body x b ∷ k) = x ∷ scope book k
scope book (condition ∷ k) = scope book k
scope book (then_branch c ∷ k) = scope book k
scope book (else_branch c a ∷ k) = scope book k

abbrev pub and_then : Outcome → (State → Outcome) → Outcome
and_then (go s) f = f s
and_then stuck f = stuck
and_then unknown f = unknown

-- `allowed names x`: may x be used where these names are in force?
module _ (allowed : List Name → Name → Bool) (book : List Name) where
  abbrev pub step : State → Token → Outcome
  step (operand cl sl ap k) (mark m) = at_mark cl sl ap k m
  step (operand cl sl ap k) (name x) = cond (allowed (scope book k) x)
      (go (operand cl sl (some (applied ap (used x))) k)) unknown
  step (operand cl sl ap k) (numeral z) = go (operand cl sl (some (applied ap (literal z))) k)
  step (operand cl sl ap k) end = closed end cl sl ap k
  step (fun_name k) t = at_binder (λ x. fun_arrow x k) t
  step (fun_arrow x k) t = cond (is Arrow t) (go (start (fun_body x ∷ k))) stuck
  step (let_name k) t = at_binder (λ x. let_equals x k) t
  step (let_equals x k) t = cond (is Equals t) (go (start (let_bound x ∷ k))) stuck
  step (accepted e) t = stuck

  abbrev pub run : State → List Token → Outcome
  run s [] = go s
  run s (t ∷ ts) = and_then (step s t) (λ s'. run s' ts)

  -- every name that a tree uses is allowed where it is used
  abbrev pub Fits : List Name → Expr → Type 0
  Fits names (literal z) = Unit {0}
  Fits names (boolean b) = Unit {0}
  Fits names (used x) = allowed names x ≡ true
  Fits names (lambda x e) = Fits (x ∷ names) e
  Fits names (apply e f) = Fits names e × Fits names f
  Fits names (let_in x e f) = Fits names e × Fits (x ∷ names) f
  Fits names (plus e f) = Fits names e × Fits names f
  Fits names (at_most e f) = Fits names e × Fits names f
  Fits names (if_else e f g) = Fits names e × (Fits names f × Fits names g)

-- ── which names may be used ──

abbrev pub found : Option ℕ → Bool
found none = false
found (some d) = true

-- every name is allowed
abbrev pub any : List Name → Name → Bool
any names x = true

-- only names in force are allowed
abbrev pub in_force : List Name → Name → Bool
in_force names x = found (distance names x)

-- whether a token begins an atom
abbrev pub starts_atom : Token → Bool
starts_atom (mark Fun) = false
starts_atom (mark Let) = false
starts_atom (mark In) = false
starts_atom (mark If) = false
starts_atom (mark Then) = false
starts_atom (mark Else) = false
starts_atom (mark True) = true
starts_atom (mark False) = true
starts_atom (mark Arrow) = false
starts_atom (mark Equals) = false
starts_atom (mark AtMost) = false
starts_atom (mark Plus) = false
starts_atom (mark Open) = true
starts_atom (mark Close) = false
starts_atom (name x) = true
starts_atom (numeral z) = true
starts_atom end = false
