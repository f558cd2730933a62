-- One reduction: what the machine does for each move.
use Rattle.std.specs.Prelude.{◌≡◌, ◌≢◌, ℕ, ◌+◌, ◌<◌, List, length, None}
use Rattle.store.specs.Lists.{Lists, Same, Made}
use Rattle.values.specs.declared.Value.{Value}
use Rattle.reckoning.specs.Environments.{Env}
use Rattle.reckoning.specs.Work.{Work}
use Rattle.reckoning.specs.Moves.{Move, rests, beyond, stuck, plain, makes, move}
use Rattle.reckoning.specs.Room.{Room, price}
use Rattle.machine.specs.declared.operations.Operations.{Operations}
use Rattle.machine.specs.declared.reduce.Reduced.{Reduced}
use Rattle.machine.specs.declared.reduce.Reduced.TheVariants.{Found, Body, Range, NoStore}
use Rattle.machine.specs.Handles.{IsListOf}
use Rattle.machine.specs.Standing.{Meets, HasFound}
use Rattle.machine.specs.Places.{Rule}

abbrev pub room_of : ℕ → (ℕ → ℕ) → Room
room_of whole cost = record { whole = whole; cost = cost }

-- a fresh handle has this environment, which was paid for, and all else stays
pub record MakesList (rule : Rule) (r : Room) (lists lists' : Lists Value) (free free' : ℕ) (env : Env) : Type 0 where
  pub handle : ℕ
  pub fresh : lists handle ≡ None
  pub known : IsListOf rule lists' handle env
  pub others : (h : ℕ) → (h ≢ handle) → lists' h ≡ lists h
  pub paid : free' + price r env ≡ free

-- the move leads to the work w, and the store does what it says
abbrev pub Moved : Rule → Room → Lists Value → Lists Value → ℕ → ℕ → Move → Work → Type 0
Moved rule r lists lists' free free' rests w = ⊥
Moved rule r lists lists' free free' (beyond n) w = ⊥
Moved rule r lists lists' free free' stuck w = ⊥
Moved rule r lists lists' free free' (plain u) w = (u ≡ w) × Same lists lists' × (free' ≡ free)
Moved rule r lists lists' free free' (makes n env u) w = (u ≡ w) × MakesList rule r lists lists' free free' env

abbrev pub Reduces : Rule → Room → Lists Value → Lists Value → ℕ → ℕ → Operations → Reduced → Work → Type 0
Reduces rule r lists lists' free free' table (Found x) w = (u : Work) × Moved rule r lists lists' free free'
    (move w) u × HasFound rule lists' table x u
Reduces rule r lists lists' free free' table (Body p h) w = (u : Work) × Moved rule r lists lists' free free'
    (move w) u × Meets rule lists' table p h u
Reduces rule r lists lists' free free' table (Range n out) w = (move w ≡ beyond n) × Same lists lists' × (free' ≡ free)
Reduces rule r lists lists' free free' table (NoStore n) w =
    (env : Env) × (u : Work) × (move w ≡ makes n env u) × (free < price r env) × Same lists lists' × (free' ≡ free)

-- a body is entered with x before the list l, or there is no room
abbrev pub Extends : Lists Value → Lists Value → ℕ → ℕ → (ℕ → ℕ) → List Value → Value → ℕ → ℕ → Reduced → Type 0
Extends lists lists' free free' cost l x node place (Found y) = ⊥
Extends lists lists' free free' cost l x node place (Body p k) = (p ≡ place) × Made lists lists' free free' cost l x k
Extends lists lists' free free' cost l x node place (Range n out) = ⊥
Extends lists lists' free free' cost l x node place (NoStore n) =
    (n ≡ node) × (free < cost (length l)) × Same lists lists' × (free' ≡ free)
