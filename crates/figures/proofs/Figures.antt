-- The figures, by computation.
use Rattle.std.proofs.Common.{ℕ, List, [], ◌∷◌, codes, pos, negsuc, true, refl}
use Rattle.grammar.specs.Token.{Name}
use Rattle.grammar.specs.Grammar.{Expr, literal, boolean, used, lambda, apply, let_in, plus, at_most, if_else}
use Rattle.calculus.specs.Types.{int, ◌⇒◌, unknown}
use Rattle.calculus.proofs.Figures.{figures}
use Rattle.reckoning.proofs.Figures.{room_figures}
use Rattle.syntax.specs.Tree.{number, sum}
use Rattle.calculus.specs.Figures.{heating, thrice, identity, itself, no_function, leaving}
use Rattle.reckoning.specs.Figures.{kept_twice}
use Rattle.figures.specs.Figures.{Compiles, Figures}
use Rattle.figures.proofs.Reading.{compiles}
use Rattle.figures.proofs.Typing.{heating_general, thrice_general, leaving_general, nested_general, itself_unmet}
use Rattle.figures.proofs.Typing.{no_function_met, no_function_unmet, is_accepted, is_refused}

-- ── texts ──

-- names that the texts use
abbrev coil : Expr
coil = used (codes "coil")

abbrev f : Expr
f = used (codes "f")

abbrev x : Expr
x = used (codes "x")

abbrev y : Expr
y = used (codes "y")

abbrev k : ℕ → Expr
k n = literal (pos n)

abbrev no_names : List Name
no_names = []

abbrev one_name : List Name
one_name = codes "coil" ∷ []

heating_compiles :
    Compiles one_name (codes "if 80 <= coil then 1 else 0") heating
    (codes "001601010a09010000005004000001000000010100000000")
heating_compiles =
    compiles _ _ (if_else (at_most (k 80) coil) (k 1) (k 0)) _ _ refl refl refl refl refl refl refl

thrice_compiles :
    Compiles
    no_names
    (codes "(fun f -> fun x -> x + f x) (fun y -> y + y) 7")
    thrice
    (codes "001e010006060505080400000604000104000005080400000400000100000007")
thrice_compiles = compiles _ _ rule _ _ refl refl refl refl refl refl refl
  where
    rule : Expr
    rule = apply (apply (lambda (codes "f") (lambda (codes "x") (plus x (apply f x))))
        (lambda (codes "y") (plus y y))) (k 7)

identity_compiles : Compiles no_names (codes "fun x -> x") identity (codes "0006010005040000")
identity_compiles = compiles _ _ (lambda (codes "x") x) _ _ refl refl refl refl refl refl refl

itself_compiles : Compiles no_names (codes "fun x -> x x") itself (codes "000a01000506040000040000")
itself_compiles = compiles _ _ (lambda (codes "x") (apply x x)) _ _ refl refl refl refl refl refl refl

no_function_compiles : Compiles no_names (codes "1 true") no_function (codes "0009010006010000000103")
no_function_compiles = compiles _ _ (apply (k 1) (boolean true)) _ _ refl refl refl refl refl refl refl

leaving_compiles :
    Compiles
    no_names
    (codes "(2147483647 + 1) + (2147483647 + 2)")
    (sum (leaving 1) (leaving 2))
    (codes "001901000808017fffffff010000000108017fffffff0100000002")
leaving_compiles =
    compiles _ _ (plus (plus (k 2147483647) (k 1)) (plus (k 2147483647) (k 2))) _ _ refl refl refl refl refl refl refl

nested_compiles :
    Compiles one_name (codes "let x = coil in let y = x in y") kept_twice (codes "000d01010704000007040000040000")
nested_compiles = compiles _ _ (let_in (codes "x") coil (let_in (codes "y") x y)) _ _ refl refl refl refl refl refl refl

minus_one : Compiles no_names (codes "-1") (number (negsuc 0)) (codes "0007010001ffffffff")
minus_one = compiles _ _ (literal (negsuc 0)) _ _ refl refl refl refl refl refl refl

least : Compiles no_names (codes "-2147483648") (number (negsuc 2147483647)) (codes "000701000180000000")
least = compiles _ _ (literal (negsuc 2147483647)) _ _ refl refl refl refl refl refl refl

greatest : Compiles no_names (codes "2147483647") (number (pos 2147483647)) (codes "00070100017fffffff")
greatest = compiles _ _ (k 2147483647) _ _ refl refl refl refl refl refl refl

leading_zeros : Compiles no_names (codes "007") (number (pos 7)) (codes "000701000100000007")
leading_zeros = compiles _ _ (k 7) _ _ refl refl refl refl refl refl refl

minus_zero : Compiles no_names (codes "-0") (number (pos 0)) (codes "000701000100000000")
minus_zero = compiles _ _ (k 0) _ _ refl refl refl refl refl refl refl

pub figures_stand : Figures
figures_stand =
    record {
      heating_compiles = heating_compiles;
      heating_accepted = is_accepted _ _ _ refl refl heating_compiles.means int _ heating_general refl refl;
      heating_gives = figures.heating_on;
      thrice_compiles = thrice_compiles;
      thrice_accepted = is_accepted _ _ _ refl refl thrice_compiles.means int _ thrice_general refl refl;
      thrice_gives = figures.thrice_seven;
      thrice_linked = room_figures.linked_needs;
      thrice_flat = room_figures.flat_needs;
      thrice_stops = room_figures.no_store_at_6;
      identity_compiles = identity_compiles;
      identity_accepted =
          is_accepted _ _ _ refl refl identity_compiles.means (unknown 0 ⇒ unknown 0) _ figures.identity_type refl refl;
      identity_over =
          record {
            gives = figures.identity_over;
            is_over = λ room. refl;
            grant_refused = λ room n. refl;
            numbered = refl;
          };
      itself_compiles = itself_compiles;
      itself_refused = is_refused _ _ _ refl refl itself_compiles.means 3 itself_unmet;
      no_function_compiles = no_function_compiles;
      no_function_refused = is_refused _ _ _ refl refl no_function_compiles.means 1 no_function_unmet;
      no_function_met_to_0 = no_function_met;
      leaving_compiles = leaving_compiles;
      leaving_accepted = is_accepted _ _ _ refl refl leaving_compiles.means int _ leaving_general refl refl;
      leaving_range = figures.sum_right_first;
      minus_one = minus_one;
      least = least;
      greatest = greatest;
      leading_zeros = leading_zeros;
      minus_zero = minus_zero;
      nested_compiles = nested_compiles;
      nested_accepted = is_accepted _ _ _ refl refl nested_compiles.means int _ nested_general refl refl;
      nested_enough = room_figures.two_lets;
      nested_short = room_figures.two_lets_short;
    }
