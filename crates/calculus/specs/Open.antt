-- The operations that are open in a term once its next reduction is sought.
use Rattle.std.specs.Prelude.{List, [], ◌∷◌, ℕ}
use Rattle.calculus.specs.Term.{Term, number, truth, variable, function, application, let_in, sum, at_most, if_else}

-- two children: the right one as long as it is not a value, and then the left one
abbrev pub right_or_left : List ℕ → List ℕ → List ℕ
right_or_left [] left = left
right_or_left (n ∷ right) left = n ∷ right

-- Their nodes: from the outermost, down through the child that is being worked out, to the one that is reduced next. A
-- value has none, since nothing is reduced inside a function; nor is a let's body or a branch of an if entered.
abbrev pub open_operations : Term → List ℕ
open_operations (number k) = []
open_operations (truth b) = []
open_operations (variable d) = []
open_operations (function n b) = []
open_operations (application n f a) = n ∷ right_or_left (open_operations a) (open_operations f)
open_operations (let_in n e b) = n ∷ open_operations e
open_operations (sum n l r) = n ∷ right_or_left (open_operations r) (open_operations l)
open_operations (at_most n l r) = n ∷ right_or_left (open_operations r) (open_operations l)
open_operations (if_else n c t e) = n ∷ open_operations c
