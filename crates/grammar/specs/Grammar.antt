-- The grammar, rule by rule as it is printed.
--
--   expr:  fun name -> expr  |  let name = expr in expr  |  if expr then expr else expr  |  cmp
--   cmp:   sum  |  sum <= sum
--   sum:   app  |  sum + app
--   app:   atom  |  app atom
--   atom:  number  |  true  |  false  |  name  |  ( expr )
use Rattle.std.specs.Prelude.{Bool, true, false, List, [], ◌∷◌, ◌++◌, ℤ}
use Rattle.grammar.specs.declared.Mark.TheVariants.{Fun, Let, In, If, Then, Else, True, False, Arrow, Equals, AtMost}
use Rattle.grammar.specs.declared.Mark.TheVariants.{Plus, Open, Close}
use Rattle.grammar.specs.Token.{Name, Token, mark, name, numeral}

-- the tree of a text, with names where the tree of a rule has distances
pub data Expr : Type 0 where
  literal : ℤ → Expr
  boolean : Bool → Expr
  used : Name → Expr
  lambda : Name → Expr → Expr
  apply : Expr → Expr → Expr
  let_in : Name → Expr → Expr → Expr
  plus : Expr → Expr → Expr
  at_most : Expr → Expr → Expr
  if_else : Expr → Expr → Expr → Expr

pub data Class : Type 0 where
  expr cmp sum app atom : Class

-- which token lists each class derives, and the tree of each derivation
pub data Derives : Class → List Token → Expr → Type 0 where
  fun_arrow : {x : Name} {b : List Token} {e : Expr} → Derives expr b e
      → Derives expr (mark Fun ∷ name x ∷ mark Arrow ∷ b) (lambda x e)
  let_equals_in : {x : Name} {a b : List Token} {e f : Expr} → Derives expr a e → Derives expr b f
      → Derives expr (mark Let ∷ name x ∷ mark Equals ∷ (a ++ mark In ∷ b)) (let_in x e f)
  if_then_else : {a b c : List Token} {e f g : Expr} → Derives expr a e → Derives expr b f → Derives expr c g
      → Derives expr (mark If ∷ (a ++ mark Then ∷ (b ++ mark Else ∷ c))) (if_else e f g)
  only_cmp : {a : List Token} {e : Expr} → Derives cmp a e → Derives expr a e
  only_sum : {a : List Token} {e : Expr} → Derives sum a e → Derives cmp a e
  sum_at_most : {a b : List Token} {e f : Expr} → Derives sum a e → Derives sum b f
      → Derives cmp (a ++ mark AtMost ∷ b) (at_most e f)
  only_app : {a : List Token} {e : Expr} → Derives app a e → Derives sum a e
  sum_plus : {a b : List Token} {e f : Expr} → Derives sum a e → Derives app b f → Derives sum (a ++ mark Plus ∷ b)
      (plus e f)
  only_atom : {a : List Token} {e : Expr} → Derives atom a e → Derives app a e
  app_atom : {a b : List Token} {e f : Expr} → Derives app a e → Derives atom b f → Derives app (a ++ b) (apply e f)
  a_number : {z : ℤ} → Derives atom (numeral z ∷ []) (literal z)
  a_true : Derives atom (mark True ∷ []) (boolean true)
  a_false : Derives atom (mark False ∷ []) (boolean false)
  a_name : {x : Name} → Derives atom (name x ∷ []) (used x)
  in_parentheses : {a : List Token} {e : Expr} → Derives expr a e → Derives atom (mark Open ∷ (a ++ mark Close ∷ [])) e
