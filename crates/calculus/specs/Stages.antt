-- The stages of a rule on given readings.
use Rattle.std.specs.Prelude.{List, map, ℤ, ℕ, zero, suc}
use Rattle.syntax.specs.Tree.{Tree}
use Rattle.calculus.specs.Term.{Term, number, numbered}
use Rattle.calculus.specs.Substitution.{put}
use Rattle.calculus.specs.Step.{Next, rests, beyond, stuck, to, step}

-- one reduction on, where there is one
abbrev pub after : Term → Next → Term
after t rests = t
after t (beyond n) = t
after t stuck = t
after t (to u) = u

-- stage 0: the rule with its readings put in as numbers
abbrev pub start : List ℤ → Tree → Term
start readings t = put zero (map number readings) (numbered 0 t)

-- the stages that follow t, t being stage 0
abbrev pub stage : ℕ → Term → Term
stage zero t = t
stage (suc n) t = after (stage n t) (step (stage n t))
