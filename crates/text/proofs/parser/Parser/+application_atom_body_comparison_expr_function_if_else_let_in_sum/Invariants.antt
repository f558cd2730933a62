use Rattle.std.proofs.Common.{ℕ, ◌+◌, ◌-◌, ◌*◌, length}
use Rattle.text.specs.declared.parser.Parser.{Parser}
use Rattle.text.specs.Parsing.{source}
use Rattle.text.specs.Scopes.{open_names, Restored}
use Rattle.text.proofs.Turns.{ApplicationSoFar, SumSoFar}
use Rattle.text.proofs.parser.Parser.+application_atom_body_comparison_expr_function_if_else_let_in_sum.Given as goal

-- what is left of the text, and behind it how deep a rule stands in the grammar
abbrev left : Parser → ℕ → ℕ
left p rank = 16 * (length p.text.now - p.current.place) + rank

abbrev pub decreases-application : goal.decreases-application
decreases-application l = left l.self.now 4

abbrev pub decreases-atom : goal.decreases-atom
decreases-atom l = left l.self.now 3

abbrev pub decreases-body : goal.decreases-body
decreases-body l = left l.self.now 9

abbrev pub decreases-comparison : goal.decreases-comparison
decreases-comparison l = left l.self.now 6

abbrev pub decreases-expr : goal.decreases-expr
decreases-expr l = left l.self.now 8

abbrev pub decreases-function : goal.decreases-function
decreases-function l = left l.self.now 7

abbrev pub decreases-if_else : goal.decreases-if_else
decreases-if_else l = left l.self.now 7

abbrev pub decreases-let_in : goal.decreases-let_in
decreases-let_in l = left l.self.now 7

abbrev pub decreases-sum : goal.decreases-sum
decreases-sum l = left l.self.now 5

abbrev pub invariant-application-loop-self : goal.invariant-application-loop-self
invariant-application-loop-self l =
    Restored l.initial.scope l.scope × ApplicationSoFar (source l.initial.self) (open_names l.initial.scope)
    l.initial.self l.initial.function l.self l.function

abbrev pub decreases-application-loop-self : goal.decreases-application-loop-self
decreases-application-loop-self l = length l.self.text.now - l.self.current.place

abbrev pub invariant-sum-loop-self : goal.invariant-sum-loop-self
invariant-sum-loop-self l = Restored l.initial.scope l.scope × SumSoFar (source l.initial.self)
    (open_names l.initial.scope) l.initial.self l.initial.left l.self l.left

abbrev pub decreases-sum-loop-self : goal.decreases-sum-loop-self
decreases-sum-loop-self l = length l.self.text.now - l.self.current.place
