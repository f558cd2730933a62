-- What some texts come to: their trees, their records, their types and their runs.
use Rattle.std.specs.Prelude.{◌≡◌, ℕ, List, [], ◌∷◌, length, codes, pos, negsuc, Err}
use Rattle.syntax.specs.Tree.{Tree, number, sum}
use Rattle.syntax.specs.Record.{record_of}
use Rattle.figures.specs.Digits.{shown}
use Rattle.grammar.specs.Token.{Name}
use Rattle.grammar.specs.Verdict.{Means, Verdict, compiled}
use Rattle.calculus.specs.Conditions.{Assignment, Meets}
use Rattle.calculus.specs.Figures.{Gives, heating, thrice, identity, itself, no_function, leaving}
use Rattle.calculus.specs.Length.{Answer}
use Rattle.typing.specs.Judging.{Judgement, accepted, refused}
use Rattle.reckoning.specs.Figures.{linked, flat, kept_twice, Stands, Needs}
use Rattle.reckoning.specs.Reckoning.{over, no_store, reckoned, state}
use Rattle.reckoning.specs.Room.{Room, behind}
use Rattle.run.specs.Faults.{grant_answer, number_of}
use Rattle.run.specs.declared.fault.RunFault.TheVariants.{NotWaiting}

-- With these names for its readings the text means the tree, and compiles to its record; the record in digits, two for
-- each byte.
pub record Compiles (names : List Name) (text : List ℕ) (t : Tree) (digits : List ℕ) : Type 0 where
  pub means : Means names text t
  pub verdict : Verdict names text 2564 (compiled (record_of (length names) t))
  pub in_digits : shown (record_of (length names) t) ≡ digits

-- The record of a tree over r readings is accepted with this type answer, or refused with this number and place. The
-- work tables are long enough for every rule, and the buffer has room for 65,536 entries.
abbrev pub Accepted : ℕ → Tree → List ℕ → Type 0
Accepted r t w = Judgement (record_of r t) 1538 1538 65536 (accepted r t w)

abbrev pub Refused : ℕ → Tree → ℕ → ℕ → Type 0
Refused r t k place = Judgement (record_of r t) 1538 1538 65536 (refused k place)

-- a run of the rule is over as it starts, whatever room there is, and a grant of any steps is refused with 21
pub record OverAtStart (t : Tree) (a : Answer) : Type 0 where
  pub gives : Gives [] t 0 a
  pub is_over : (room : Room) → state (reckoned room [] t 0) ≡ over a
  pub grant_refused : (room : Room) (n : ℕ) → grant_answer (state (reckoned room [] t 0)) 0 n ≡ Err NotWaiting
  pub numbered : number_of NotWaiting ≡ 21

pub record Figures : Type 0 where
  -- int; with coil at 80 it gives 1, length 2
  pub heating_compiles :
      Compiles
      (codes "coil" ∷ [])
      (codes "if 80 <= coil then 1 else 0")
      heating
      (codes "001601010a09010000005004000001000000010100000000")
  pub heating_accepted : Accepted 1 heating (0 ∷ [])
  pub heating_gives : Gives (pos 80 ∷ []) heating 2 (Answer.number (pos 1))
  -- int; gives 21, length 5; needs 3 linked cells or 7 flat slots; with 2 cells it stops as no store at node 6, count 2
  pub thrice_compiles :
      Compiles
      []
      (codes "(fun f -> fun x -> x + f x) (fun y -> y + y) 7")
      thrice
      (codes "001e010006060505080400000604000104000005080400000400000100000007")
  pub thrice_accepted : Accepted 0 thrice (0 ∷ [])
  pub thrice_gives : Gives [] thrice 5 (Answer.number (pos 21))
  pub thrice_linked : Needs linked 3
  pub thrice_flat : Needs flat 7
  pub thrice_stops : Stands (linked 2) [] thrice 3 2 (no_store 6) 0
  -- spells 2, 3, 3; over at the start, and a grant is refused with 21
  pub identity_compiles : Compiles [] (codes "fun x -> x") identity (codes "0006010005040000")
  pub identity_accepted : Accepted 0 identity (2 ∷ 3 ∷ 3 ∷ [])
  pub identity_over : OverAtStart identity (Answer.function 0)
  -- refused with 11 at node 3
  pub itself_compiles : Compiles [] (codes "fun x -> x x") itself (codes "000a01000506040000040000")
  pub itself_refused : Refused 0 itself 11 3
  -- refused with 11 at node 1; the condition of node 0 alone can be met
  pub no_function_compiles : Compiles [] (codes "1 true") no_function (codes "0009010006010000000103")
  pub no_function_refused : Refused 0 no_function 11 1
  pub no_function_met_to_0 : (a : Assignment) × Meets 0 no_function 0 a
  -- int; the right sum leaves the range first, at node 4, count 0
  pub leaving_compiles :
      Compiles
      []
      (codes "(2147483647 + 1) + (2147483647 + 2)")
      (sum (leaving 1) (leaving 2))
      (codes "001901000808017fffffff010000000108017fffffff0100000002")
  pub leaving_accepted : Accepted 0 (sum (leaving 1) (leaving 2)) (0 ∷ [])
  pub leaving_range : Gives [] (sum (leaving 1) (leaving 2)) 0 (Answer.range 4)
  -- numbers below zero, and the ends of the range; leading zeros and -0
  pub minus_one : Compiles [] (codes "-1") (number (negsuc 0)) (codes "0007010001ffffffff")
  pub least : Compiles [] (codes "-2147483648") (number (negsuc 2147483647)) (codes "000701000180000000")
  pub greatest : Compiles [] (codes "2147483647") (number (pos 2147483647)) (codes "00070100017fffffff")
  pub leading_zeros : Compiles [] (codes "007") (number (pos 7)) (codes "000701000100000007")
  pub minus_zero : Compiles [] (codes "-0") (number (pos 0)) (codes "000701000100000000")
  -- two nested lets over one reading need 5 flat slots: the reading stands behind every list and costs nothing
  pub nested_compiles :
      Compiles
      (codes "coil" ∷ [])
      (codes "let x = coil in let y = x in y")
      kept_twice
      (codes "000d01010704000007040000040000")
  pub nested_accepted : Accepted 1 kept_twice (0 ∷ [])
  pub nested_enough : Stands (behind 1 (flat 5)) (pos 80 ∷ []) kept_twice 2 2 (over (Answer.number (pos 80))) 0
  pub nested_short : Stands (behind 1 (flat 4)) (pos 80 ∷ []) kept_twice 2 1 (no_store 2) 2
