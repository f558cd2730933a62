-- The trees that a controller can run.
use Rattle.std.specs.Prelude.{ℕ, ◌+◌, ◌<◌, ◌≤◌, FitsSigned}
use Rattle.std.specs.Int.{w32}
use Rattle.syntax.specs.Tree.{Tree, number, truth, variable, function, application, let_in, sum, at_most, if_else}
use Rattle.syntax.specs.Tree.{nodes}

-- With b variables in force around the tree, every variable is bound: its distance is below the count of those in
-- force where it stands. And every number is from −2147483648 to 2147483647.
abbrev pub Proper : ℕ → Tree → Type 0
Proper b (number k) = FitsSigned w32 k
Proper b (truth v) = Unit {0}
Proper b (variable d) = d < b
Proper b (function t) = Proper (b + 1) t
Proper b (application t u) = Proper b t × Proper b u
Proper b (let_in t u) = Proper b t × Proper (b + 1) u
Proper b (sum t u) = Proper b t × Proper b u
Proper b (at_most t u) = Proper b t × Proper b u
Proper b (if_else t u v) = Proper b t × Proper b u × Proper b v

-- a tree that may be sent, over r readings
pub record Sendable (r : ℕ) (t : Tree) : Type 0 where
  pub proper : Proper r t
  pub few : nodes t ≤ 512
  pub over : r ≤ 8
