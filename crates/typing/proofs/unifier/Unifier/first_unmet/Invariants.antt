use Rattle.std.proofs.Common.{◌≡◌, ℕ, ◌<◌, ◌≤◌, ◌-◌}
use Rattle.syntax.specs.Tree.{Tree}
use Rattle.calculus.specs.Conditions.{CannotMeet}
use Rattle.record.specs.Reading.{IsTree}
use Rattle.typing.specs.Unifying.{nodes_of}
use Rattle.typing.proofs.unifier.Unifier.first_unmet.Given as goal

-- up to `high` the conditions cannot be met; up to each node below `low` they can
abbrev pub invariant-loop-low : goal.invariant-loop-low
invariant-loop-low l = record {
  same : l.self.tree ≡ l.fn.self.tree;
  order : l.low ≤ l.high;
  inside : l.high < nodes_of l.fn.self;
  cannot : (t : Tree) → IsTree l.fn.self.tree.now t → CannotMeet l.fn.self.tree.now.readings t l.high;
  can : (t : Tree) → IsTree l.fn.self.tree.now t → (k : ℕ) → k < l.low → ¬ CannotMeet l.fn.self.tree.now.readings t k;
}

abbrev pub decreases-loop-low : goal.decreases-loop-low
decreases-loop-low l = l.high - l.low
