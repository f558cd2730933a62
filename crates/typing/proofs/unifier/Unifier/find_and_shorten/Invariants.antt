use Rattle.std.proofs.Common.{◌≡◌, ℕ, ◌+◌, ◌-◌, ◌<◌}
use Rattle.calculus.specs.Types.{Ty}
use Rattle.typing.specs.Classes.{Agrees}
use Rattle.typing.specs.Unifying.{free, Kept}
use Rattle.typing.proofs.unifier.Unifier.find_and_shorten.Given as goal

abbrev pub invariant-loop-next : goal.invariant-loop-next
invariant-loop-next l = record {
  kept : Kept l.fn.self l.self;
  inside : l.at < free l.fn.self + 2;
  same : (θ : ℕ → Ty) → Agrees (free l.fn.self) l.self.first.now l.self.second.now θ → θ l.place ≡ θ l.at;
}

abbrev pub decreases-loop-next : goal.decreases-loop-next
decreases-loop-next l = free l.fn.self + 2 - l.at
