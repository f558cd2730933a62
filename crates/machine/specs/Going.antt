-- What comes of a node that was met, or of a value that was found.
use Rattle.std.specs.Prelude.{◌≡◌, ℕ, ◌<◌, List}
use Rattle.std.proofs.Math.Option.{none, some}
use Rattle.syntax.specs.declared.node.Node.{Node}
use Rattle.store.specs.Lists.{Lists, Same}
use Rattle.values.specs.declared.Value.{Value}
use Rattle.reckoning.specs.Environments.{Env}
use Rattle.reckoning.specs.Work.{Work}
use Rattle.reckoning.specs.Moves.{beyond, makes, move}
use Rattle.reckoning.specs.Open.{one_too_many}
use Rattle.reckoning.specs.Room.{Room, price}
use Rattle.machine.specs.declared.operations.Operations.{Operations}
use Rattle.machine.specs.declared.next.Gone.{Gone}
use Rattle.machine.specs.declared.next.Gone.TheVariants.{Nearer, On, Waits, Ended}
use Rattle.machine.specs.declared.steps.State.{State}
use Rattle.machine.specs.declared.steps.State.TheVariants.{Waiting, Done, Range, NoStore, NoStack}
use Rattle.machine.specs.Standing.{HasFound, Readied, Follows}
use Rattle.machine.specs.Reducing.{Moved}
use Rattle.machine.specs.Extents.{to_go}
use Rattle.machine.specs.Places.{Rule}

-- a run ends in this state at the work w, with so many steps left
abbrev pub Ends : Rule → Room → Lists Value → ℕ → ℕ → Operations → State → Work → Type 0
Ends rule r lists free left table Waiting w = ⊥
Ends rule r lists free left table (Done x) w = (table.depth ≡ 0) × HasFound rule lists table x w
Ends rule r lists free left table (Range n out) w = (one_too_many w ≡ none) × (move w ≡ beyond n)
Ends rule r lists free left table (NoStore n) w =
    (0 < left) × (one_too_many w ≡ none) × (env : Env) × (u : Work) × (move w ≡ makes n env u) × (free < price r env)
Ends rule r lists free left table (NoStack n) w = one_too_many w ≡ some n

-- Nearer to a reduction of the work w, or to the work that it moves to; or w is known to wait or to have ended.
abbrev pub Goes : Rule → Room → Lists Value → Lists Value → ℕ → ℕ → ℕ → Operations → Gone → Work → Type 0
Goes rule r lists lists' free free' left table (Nearer to) w = Same lists lists' × (free' ≡ free)
    × Follows rule lists' table to w
Goes rule r lists lists' free free' left table (On to) w =
    (0 < left) × (one_too_many w ≡ none) × (u : Work) × Moved rule r lists lists' free free' (move w) u
    × Follows rule lists' table to u
Goes rule r lists lists' free free' left table (Waits x) w = (left ≡ 0) × Same lists lists' × (free' ≡ free)
    × Readied rule lists' table x w
Goes rule r lists lists' free free' left table (Ended st) w = Same lists lists' × (free' ≡ free)
    × Ends rule r lists' free left table st w

-- with no reduction, fewer than k nodes are still to be met
abbrev pub Lessens : List Node → Operations → Gone → ℕ → Type 0
Lessens ns table (Nearer to) k = to_go ns table to < k
Lessens ns table (On to) k = Unit {0}
Lessens ns table (Waits x) k = Unit {0}
Lessens ns table (Ended st) k = Unit {0}
