-- Values, and what they hold.
use Rattle.std.specs.Prelude.{Bool, true, false, ℤ}
use Rattle.std.proofs.Math.Option.{Option, none, some}
use Rattle.calculus.specs.Term.{Term, number, truth, variable, function, application, let_in, sum, at_most, if_else}

--   v ::= k | true | false | fun x -> t
abbrev pub is_value : Term → Bool
is_value (number k) = true
is_value (truth b) = true
is_value (variable d) = false
is_value (function n b) = true
is_value (application n f a) = false
is_value (let_in n e b) = false
is_value (sum n l r) = false
is_value (at_most n l r) = false
is_value (if_else n c t e) = false

-- views of a value: its number, its truth, its body
abbrev pub number_of : Term → Option ℤ
number_of (number k) = some k
number_of (truth b) = none
number_of (variable d) = none
number_of (function n b) = none
number_of (application n f a) = none
number_of (let_in n e b) = none
number_of (sum n l r) = none
number_of (at_most n l r) = none
number_of (if_else n c t e) = none

abbrev pub truth_of : Term → Option Bool
truth_of (number k) = none
truth_of (truth b) = some b
truth_of (variable d) = none
truth_of (function n b) = none
truth_of (application n f a) = none
truth_of (let_in n e b) = none
truth_of (sum n l r) = none
truth_of (at_most n l r) = none
truth_of (if_else n c t e) = none

abbrev pub body_of : Term → Option Term
body_of (number k) = none
body_of (truth b) = none
body_of (variable d) = none
body_of (function n b) = some b
body_of (application n f a) = none
body_of (let_in n e b) = none
body_of (sum n l r) = none
body_of (at_most n l r) = none
body_of (if_else n c t e) = none
