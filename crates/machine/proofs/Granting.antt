-- One granted step, on plain lists and in the store.
use Rattle.std.proofs.Common.{◌≡◌, ◌≢◌, ℕ, suc, ◌+◌, ◌<◌, ◌≤◌, inl, inr, Bool, true, false, List, [], ◌∷◌, Some, refl}
use Rattle.std.proofs.Common.{sym, ap, ◌∙◌, subst, arith}
use Rattle.std.proofs.Math.Option.{none, some}
use Rattle.store.specs.Lists.{Lists, Same}
use Rattle.store.proofs.Told.{some_none}
use Rattle.values.specs.declared.Value.{Value}
use Rattle.reckoning.specs.Environments.{Env}
use Rattle.reckoning.specs.Work.{Work}
use Rattle.reckoning.specs.Moves.{Move, rests, beyond, stuck, plain, makes, move}
use Rattle.reckoning.specs.Room.{Room, price, free}
use Rattle.reckoning.specs.Reckoning.{Reckoned, waiting, state, extends, reduces, if_waiting, granted, steps}
use Rattle.machine.specs.declared.steps.Machine.{Machine}
use Rattle.machine.specs.declared.steps.State.TheVariants as told
use Rattle.machine.specs.declared.steps.State as told_state
use Rattle.machine.specs.Handles.{Among, OwnLists, Root, Owned}
use Rattle.machine.specs.Reducing.{room_of, MakesList, Moved}
use Rattle.machine.specs.Running.{state_of, StandsAt, NeverStuck}
use Rattle.reckoning.proofs.Steps.{steps_add_up, stays}
use Rattle.machine.proofs.Ranges.{leb_yes, leb_no}
use Rattle.machine.proofs.Keeping.{Kept, same_kept, others_kept, list_kept}
use Rattle.machine.specs.Places.{Rule}

-- the lists made

module _ (rule : Rule) (lists lists' : Lists Value) where
  own_kept : Kept lists lists' → (root : ℕ) (handles : List ℕ) (made : List Env)
      → OwnLists rule lists root handles made → OwnLists rule lists' root handles made
  own_kept kept root [] [] o = o
  own_kept kept root [] (env ∷ made) o = o
  own_kept kept root (h ∷ handles) [] o = o
  own_kept kept root (h ∷ handles) (env ∷ made) o = (
    list_kept rule lists lists' kept h env o.0,
    o.1,
    o.2,
    own_kept kept root handles made o.3,
  )

  own_listed : (k root : ℕ) (handles : List ℕ) (made : List Env) → OwnLists rule lists root handles made
      → Among k handles → (l : List Value) × (lists k ≡ Some l)
  own_listed k root [] [] o a = absurd a
  own_listed k root [] (env ∷ made) o a = absurd a
  own_listed k root (h ∷ handles) [] o a = absurd o
  own_listed k root (h ∷ handles) (env ∷ made) o (inl e) = (o.0.0, ap lists e ∙ o.0.1)
  own_listed k root (h ∷ handles) (env ∷ made) o (inr a) = own_listed k root handles made o.3 a

  pub owned_same : (root : Root) (made : List Env) → Same lists lists' → Owned rule lists root made
      → Owned rule lists' root made
  owned_same root made same o =
      let kept = same_kept lists lists' same in
      record {
        handles = o.handles;
        at_root = list_kept rule lists lists' kept root.handle root.environment o.at_root;
        own = own_kept kept root.handle o.handles made o.own;
        no_other = λ h n a. same h ∙ o.no_other h n a;
      }

  pub owned_more : (r : Room) (left left' : ℕ) (root : Root) (env : Env) (made : List Env)
      → MakesList rule r lists lists' left left' env → Owned rule lists root made → Owned rule lists' root (env ∷ made)
  owned_more r left left' root env made m o =
      let kept = others_kept lists lists' m.handle m.fresh m.others in
      let not_root : m.handle ≢ root.handle = λ e. some_none o.at_root.1 (ap lists (sym e) ∙ m.fresh) in
      let not_among : ¬ Among m.handle o.handles = λ a.
      let l = own_listed m.handle root.handle o.handles made o.own a in some_none l.1 m.fresh in
      record {
        handles = m.handle ∷ o.handles;
        at_root = list_kept rule lists lists' kept root.handle root.environment o.at_root;
        own = (m.known, not_root, not_among, own_kept kept root.handle o.handles made o.own);
        no_other = λ h n a. m.others h (λ e. a (inl e)) ∙ o.no_other h n (λ b. a (inr b));
      }

-- one granted step

pub granted_reduces : (r : Room) (s : Reckoned) → state s ≡ waiting → granted r s ≡ reduces r s (move s.work)
granted_reduces r s e = ap (λ st. if_waiting st (reduces r s (move s.work)) s) e

module _ (rule : Rule) (lists lists' : Lists Value) (r : Room) (left left' : ℕ) (root : Root) where
  -- s' is where a reduction of s to the work u leads
  pub record Goes (s s' : Reckoned) (u : Work) : Type 0 where
    pub work : s'.work ≡ u
    pub count : s'.count ≡ suc s.count
    pub refused : s'.refused ≡ none
    pub left_free : left' ≡ free r s'.made
    pub lists_made : Owned rule lists' root s'.made

  extends_goes : (s : Reckoned) (n : ℕ) (env : Env) (w u : Work) (b : Bool) → b ≡ true → w ≡ u → left ≡ free r s.made
      → Owned rule lists root s.made →
      MakesList rule r lists lists' left left' env → Goes s (extends r s n env w b) u
  extends_goes s n env w u false b e f o m = let z : ◌≡◌ {A = ℕ} 0 1 = cc in absurd (omega arith)
  extends_goes s n env w u true b e f o m =
      let paid = m.paid in
      record {
        work = e;
        count = refl;
        refused = refl;
        left_free = omega arith;
        lists_made = owned_more rule lists lists' r left left' root env s.made m o;
      }

  pub reduces_goes : (s : Reckoned) (m : Move) (u : Work) → left ≡ free r s.made → Owned rule lists root s.made
      → Moved rule r lists lists' left left' m u → Goes s (reduces r s m) u
  reduces_goes s rests u f o m = absurd m
  reduces_goes s (beyond n) u f o m = absurd m
  reduces_goes s stuck u f o m = absurd m
  reduces_goes s (plain w) u f o m =
      record {
        work = m.0;
        count = refl;
        refused = refl;
        left_free = m.2 ∙ f;
        lists_made =
            owned_same rule lists lists' root s.made m.1 o;
      }
  reduces_goes s (makes n env w) u f o m =
      let paid = m.1.paid in
      extends_goes s n env w u _ (leb_yes (price r env) (free r s.made) (omega arith)) m.0 f o m.1

  -- an extension is refused
  pub refused_stands : (s : Reckoned) (n : ℕ) (env : Env) (u : Work) (run : Machine) → state s ≡ waiting
      → left ≡ free r s.made → Owned rule lists root s.made →
      move s.work ≡ makes n env u → left < price r env → Same lists lists' → left' ≡ left → run.count ≡ s.count
      → run.state ≡ told.NoStore n →
      StandsAt rule lists' r left' root run (granted r s)
  refused_stands s n env u run e f o m dear same still c st =
      let no : _ = leb_no (price r env) (free r s.made) (omega arith) in
      let is : granted r s ≡ record { work = s.work; count = s.count; made = s.made; refused = some n } =
      granted_reduces r s e ∙ ap (λ y. reduces r s y) m ∙ ap (λ b. extends r s n env u b) no in
      subst (λ y. StandsAt rule lists' r left' root run y) (sym is) (record {
        in_state = ap state_of st;
        counted = c;
        left_free = still ∙ f;
        lists_made = owned_same rule lists lists' root s.made same o;
        ready = λ w. let z : ◌≡◌ {A = ℕ} 0 1 = cc in absurd (omega arith);
      })

-- several granted steps

pub never_stuck_on : (r : Room) (s : Reckoned) (n : ℕ) → NeverStuck r s → NeverStuck r (steps r n s)
never_stuck_on r s n h k e = h (k + n) (ap (λ y. move y.work) (sym (steps_add_up r s k n)) ∙ e)

module _ (rule : Rule) (lists lists' : Lists Value) (r : Room) (left left' : ℕ) (root : Root) where
  pub granted_goes : (s : Reckoned) (u : Work) → state s ≡ waiting → left ≡ free r s.made
      → Owned rule lists root s.made → Moved rule r lists lists' left left' (move s.work) u →
      Goes rule lists lists' r left left' root s (granted r s) u
  granted_goes s u e f o m = subst (λ y. Goes rule lists lists' r left left' root s y u) (sym (granted_reduces r s e))
      (reduces_goes rule lists lists' r left left' root s (move s.work) u f o m)

pub room_same : (whole whole' : ℕ) (cost cost' : ℕ → ℕ) → whole ≡ whole' → cost ≡ cost'
    → room_of whole cost ≡ room_of whole' cost'
room_same whole whole' cost cost' e f = ap (λ x. room_of x cost) e ∙ ap (λ y. room_of whole' y) f

waiting_told : (st : told_state.State) → state_of st ≡ waiting → st ≡ told.Waiting
waiting_told told.Waiting e = refl
waiting_told (told.Done x) e = let z : ◌≡◌ {A = ℕ} 0 1 = cc in absurd (omega arith)
waiting_told (told.Range n out) e = let z : ◌≡◌ {A = ℕ} 0 1 = cc in absurd (omega arith)
waiting_told (told.NoStore n) e = let z : ◌≡◌ {A = ℕ} 0 1 = cc in absurd (omega arith)
waiting_told (told.NoStack n) e = let z : ◌≡◌ {A = ℕ} 0 1 = cc in absurd (omega arith)

-- a run that waits no more stands where it will stand after all further steps
pub stopped : (rule : Rule) (lists : Lists Value) (r : Room) (left : ℕ) (root : Root) (run : Machine) (s : Reckoned)
    (n m : ℕ) → n ≤ m → (run.state ≡ told.Waiting → ⊥) →
    StandsAt rule lists r left root run (steps r n s) → StandsAt rule lists r left root run (steps r m s)
stopped rule lists r left root run s n m h not t =
    subst (λ y. StandsAt rule lists r left root run y)
    (sym (stays r s m n h (λ e. not (waiting_told run.state (t.in_state ∙ e))))) t
