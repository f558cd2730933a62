-- From every state some tokens lead to the end: what has been read so far begins a sentence. Assumes
-- nothing.
use Rattle.std.proofs.Common.{◌≡◌, Bool, List, [], ◌∷◌, pos, refl, ap, ◌∙◌}
use mathlib.Core.Option.{Option, some, none}
use Rattle.grammar.specs.declared.Mark.TheVariants.{In, Then, Else, Arrow, Equals, Close}
use Rattle.grammar.specs.Token.{Name, Token, mark, name, numeral, end}
use Rattle.grammar.specs.Grammar.{Expr, literal, lambda, let_in, if_else}
use Rattle.grammar.specs.Automaton.{Frame, paren, fun_body, let_bound, let_body, condition, then_branch, else_branch}
use Rattle.grammar.specs.Automaton.{State, operand, fun_name, fun_arrow, let_name, let_equals, accepted, Outcome, go}
use Rattle.grammar.specs.Automaton.{applied, summed, compared, close, and_then, run}
use Rattle.grammar.proofs.Completeness.{Ender, in_ends, then_ends, else_ends, close_ends, end_ends, step_ender}

zero : Token
zero = numeral (pos 0)

-- the token that ends an expression inside these frames, and what may come after it
abbrev closer : List Frame → Token
closer [] = end
closer (paren cl sl ap ∷ k) = mark Close
closer (fun_body x ∷ k) = closer k
closer (let_bound x ∷ k) = mark In
closer (let_body x b ∷ k) = closer k
closer (condition ∷ k) = mark Then
closer (then_branch c ∷ k) = mark Else
closer (else_branch c a ∷ k) = closer k

abbrev beyond : List Frame → List Token
beyond [] = []
beyond (paren cl sl ap ∷ k) = closer k ∷ beyond k
beyond (fun_body x ∷ k) = beyond k
beyond (let_bound x ∷ k) = zero ∷ closer k ∷ beyond k
beyond (let_body x b ∷ k) = beyond k
beyond (condition ∷ k) = zero ∷ mark Else ∷ zero ∷ closer k ∷ beyond k
beyond (then_branch c ∷ k) = zero ∷ closer k ∷ beyond k
beyond (else_branch c a ∷ k) = beyond k

closer_ends : (k : List Frame) → Ender (closer k)
closer_ends [] = end_ends
closer_ends (paren cl sl ap ∷ k) = close_ends
closer_ends (fun_body x ∷ k) = closer_ends k
closer_ends (let_bound x ∷ k) = in_ends
closer_ends (let_body x b ∷ k) = closer_ends k
closer_ends (condition ∷ k) = then_ends
closer_ends (then_branch c ∷ k) = else_ends
closer_ends (else_branch c a ∷ k) = closer_ends k

module _ (allowed : List Name → Name → Bool) (book : List Name) where
  abbrev Accepts : Outcome → Type 0
  Accepts o = (e : Expr) × (o ≡ go (accepted e))

  -- an operand with its closer is an expression closed
  operand_accepts : (k : List Frame) (cl sl : Option Expr) (f : Expr)
      → ((e : Expr) → Accepts (and_then (close (closer k) e k) (λ s. run allowed book s (beyond k))))
      → Accepts (run allowed book (operand cl sl (some f) k) (closer k ∷ beyond k))
  operand_accepts k cl sl f later =
      let r = later (compared cl (summed sl f)) in (
        r.0,
        ap (λ o. and_then o (λ s. run allowed book s (beyond k))) (step_ender allowed book (closer_ends k) cl sl f
            k) ∙ r.1,
      )

  close_accepts : (k : List Frame) (e : Expr)
      → Accepts (and_then (close (closer k) e k) (λ s. run allowed book s (beyond k)))
  unfolding zero
  close_accepts [] e = (e, refl)
  close_accepts (paren cl sl ap ∷ k) e = operand_accepts k cl sl (applied ap e) (close_accepts k)
  close_accepts (fun_body x ∷ k) e = close_accepts k (lambda x e)
  close_accepts (let_bound x ∷ k) e = operand_accepts (let_body x e ∷ k) none none (literal (pos 0))
      (λ f. close_accepts k (let_in x e f))
  close_accepts (let_body x b ∷ k) e = close_accepts k (let_in x b e)
  close_accepts (condition ∷ k) e = operand_accepts (else_branch e (literal (pos 0)) ∷ k) none none (literal (pos 0))
      (λ f. close_accepts k (if_else e (literal (pos 0)) f))
  close_accepts (then_branch c ∷ k) e = operand_accepts (else_branch c e ∷ k) none none (literal (pos 0))
      (λ f. close_accepts k (if_else c e f))
  close_accepts (else_branch c a ∷ k) e = close_accepts k (if_else c a e)

  pub accepts : (s : State) → (rest : List Token) × Accepts (run allowed book s rest)
  accepts (operand cl sl ap k) = (
    numeral (pos 0) ∷ closer k ∷ beyond k,
    operand_accepts k cl sl (applied ap (literal (pos 0))) (close_accepts k),
  )
  accepts (fun_name k) = (
    name [] ∷ mark Arrow ∷ numeral (pos 0) ∷ closer k ∷ beyond k,
    operand_accepts (fun_body [] ∷ k) none none (literal (pos 0)) (close_accepts (fun_body [] ∷ k)),
  )
  accepts (fun_arrow x k) = (
    mark Arrow ∷ numeral (pos 0) ∷ closer k ∷ beyond k,
    operand_accepts (fun_body x ∷ k) none none (literal (pos 0)) (close_accepts (fun_body x ∷ k)),
  )
  accepts (let_name k) = (
    name [] ∷ mark Equals ∷ numeral (pos 0) ∷ mark In ∷ beyond (let_bound [] ∷ k),
    operand_accepts (let_bound [] ∷ k) none none (literal (pos 0)) (close_accepts (let_bound [] ∷ k)),
  )
  accepts (let_equals x k) = (
    mark Equals ∷ numeral (pos 0) ∷ mark In ∷ beyond (let_bound x ∷ k),
    operand_accepts (let_bound x ∷ k) none none (literal (pos 0)) (close_accepts (let_bound x ∷ k)),
  )
  accepts (accepted e) = ([], (e, refl))
