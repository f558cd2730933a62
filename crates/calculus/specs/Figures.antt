-- Worked figures: rules with their lengths and answers. They pin what no law of ending or safety notices,
-- the order of operands and the two ends of the number range.
use Rattle.std.specs.Prelude.{true, false, List, [], ◌∷◌, ◌≡◌, ℤ, pos, negsuc, ℕ}
use Rattle.std.proofs.Math.Option.{some}
use Rattle.syntax.specs.Tree.{Tree, number, truth, variable, function, application, let_in, sum, at_most, if_else}
use Rattle.syntax.specs.Record.{record_of}
use Rattle.calculus.specs.Types.{Ty, int, ◌⇒◌, unknown, RuleHas}
use Rattle.calculus.specs.Conditions.{Assignment, Meets, CannotMeet}
use Rattle.calculus.specs.General.{MostGeneral, spelling}
use Rattle.calculus.specs.Stages.{start, stage}
use Rattle.calculus.specs.Length.{Answer, Length, answer}

-- on these readings the rule has length n and then answers a
pub record Gives (readings : List ℤ) (t : Tree) (n : ℕ) (a : Answer) : Type 0 where
  pub length : Length (start readings t) n
  pub answers : answer (stage n (start readings t)) ≡ some a

-- the ends of the number range
abbrev pub least : ℤ
least = negsuc 2147483647

abbrev pub greatest : ℤ
greatest = pos 2147483647

-- if 80 <= coil then 1 else 0
abbrev pub heating : Tree
heating = if_else (at_most (number (pos 80)) (variable 0)) (number (pos 1)) (number (pos 0))

-- (fun f -> fun x -> x + f x) (fun y -> y + y) 7
abbrev pub thrice : Tree
thrice =
    application
    (application
    (function (function (sum (variable 0) (application (variable 1) (variable 0)))))
    (function (sum (variable 0) (variable 0))))
    (number (pos 7))

-- fun x -> x
abbrev pub identity : Tree
identity = function (variable 0)

-- fun x -> x x
abbrev pub itself : Tree
itself = function (application (variable 0) (variable 0))

-- 1 true
abbrev pub no_function : Tree
no_function = application (number (pos 1)) (truth true)

-- 2147483647 + k: a sum that leaves the range
abbrev pub leaving : ℕ → Tree
leaving k = sum (number greatest) (number (pos k))

-- fun x -> k: a function that drops its argument
abbrev pub drops : ℕ → Tree
drops k = function (number (pos k))

pub record Figures : Type 0 where
  -- lengths and answers
  pub heating_record :
      record_of 1 heating ≡
      0x00 ∷ 0x16 ∷ 0x01 ∷ 0x01 ∷ 0x0A ∷ 0x09 ∷ 0x01 ∷ 0x00 ∷ 0x00 ∷ 0x00 ∷ 0x50 ∷ 0x04 ∷ 0x00 ∷ 0x00 ∷
      0x01 ∷ 0x00 ∷ 0x00 ∷ 0x00 ∷ 0x01 ∷ 0x01 ∷ 0x00 ∷ 0x00 ∷ 0x00 ∷ 0x00 ∷ []
  pub heating_on : Gives (pos 80 ∷ []) heating 2 (Answer.number (pos 1))
  pub heating_off : Gives (pos 79 ∷ []) heating 2 (Answer.number (pos 0))
  pub thrice_seven : Gives [] thrice 5 (Answer.number (pos 21))
  pub identity_over : Gives [] identity 0 (Answer.function 0)
  -- types
  pub identity_type : MostGeneral 0 identity (unknown 0 ⇒ unknown 0)
  pub identity_spelled : spelling (unknown 0 ⇒ unknown 0) ≡ 2 ∷ 3 ∷ 3 ∷ []
  pub first_appearance : spelling (unknown 5 ⇒ (unknown 2 ⇒ int) ⇒ unknown 5) ≡ 2 ∷ 3 ∷ 2 ∷ 2 ∷ 4 ∷ 0 ∷ 3 ∷ []
  pub itself_type : (τ : Ty) → ¬ RuleHas 0 itself τ
  pub no_function_type : (τ : Ty) → ¬ RuleHas 0 no_function τ
  -- the node whose condition cannot be met with those before it
  pub itself_met_to_2 : (a : Assignment) × Meets 0 itself 2 a
  pub itself_refused_at_3 : CannotMeet 0 itself 3
  pub no_function_refused_at_1 : CannotMeet 0 no_function 1
  -- the right child before the left one, told by the sum that leaves the range
  pub sum_right_first : Gives [] (sum (leaving 1) (leaving 2)) 0 (Answer.range 4)
  pub compare_right_first : Gives [] (at_most (leaving 1) (leaving 2)) 0 (Answer.range 4)
  pub argument_first : Gives [] (application (application (function (drops 0)) (leaving 1)) (leaving 2)) 0
      (Answer.range 8)
  pub left_second : Gives [] (sum (leaving 1) (sum (number (pos 1)) (number (pos 2)))) 1 (Answer.range 1)
  -- a let's bound child and an if's condition first; nothing inside a function, a let's body or a branch
  pub bound_first : Gives [] (let_in (leaving 1) (leaving 2)) 0 (Answer.range 1)
  pub condition_first : Gives [] (if_else (at_most (leaving 1) (number (pos 0))) (leaving 2) (leaving 3)) 0
      (Answer.range 2)
  pub one_branch : Gives [] (if_else (truth false) (leaving 1) (number (pos 5))) 1 (Answer.number (pos 5))
  pub not_inside : Gives [] (function (leaving 1)) 0 (Answer.function 0)
  -- a copied function keeps its number
  pub copy_keeps_number : Gives [] (application identity identity) 1 (Answer.function 3)
  -- both ends of the range
  pub least_in : Gives [] (sum (number least) (number (pos 0))) 1 (Answer.number least)
  pub below_least_out : Gives [] (sum (number least) (number (negsuc 0))) 0 (Answer.range 0)
  pub greatest_in : Gives [] (sum (number (pos 2147483646)) (number (pos 1))) 1 (Answer.number greatest)
  pub above_greatest_out : Gives [] (sum (number greatest) (number (pos 1))) 0 (Answer.range 0)
  -- at most is ≤: equal numbers count, and the sign does
  pub equal_at_most : Gives [] (at_most (number least) (number least)) 1 (Answer.truth true)
  pub sign_at_most : Gives [] (at_most (number (pos 1)) (number (negsuc 0))) 1 (Answer.truth false)
