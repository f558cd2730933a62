-- A granted step of a run that is on its way.
use Rattle.std.proofs.Common.{◌≡◌, ◌≢◌, ℕ, suc, ◌≤◌, refl, sym, ap, ◌∙◌, subst, arith}
use Rattle.std.proofs.Math.Option.{Option, none, some}
use Rattle.store.specs.Lists.{Lists, Same}
use Rattle.values.specs.declared.Value.{Value}
use Rattle.reckoning.specs.Work.{Work}
use Rattle.reckoning.specs.Moves.{Move, rests, beyond, stuck, plain, makes, move}
use Rattle.reckoning.specs.Open.{one_too_many}
use Rattle.reckoning.specs.Room.{Room}
use Rattle.reckoning.specs.Reckoning.{Reckoned, State, waiting, shortage, ahead, state, granted, steps}
use Rattle.machine.specs.declared.operations.Operations.{Operations}
use Rattle.machine.specs.declared.next.Next.{Next}
use Rattle.machine.specs.declared.next.Next.TheVariants as next
use Rattle.machine.specs.declared.next.Gone.TheVariants.{Nearer, On, Waits, Ended}
use Rattle.machine.specs.declared.steps.Machine.{Machine}
use Rattle.machine.specs.declared.steps.State.TheVariants as told
use Rattle.machine.specs.declared.steps.State as told_state
use Rattle.machine.specs.Handles.{Root}
use Rattle.machine.specs.Reducing.{Moved}
use Rattle.machine.specs.Standing.{Readied, Follows}
use Rattle.machine.specs.Going.{Goes}
use Rattle.machine.specs.Running.{state_of, StandsAt, OnTheWay}
use Rattle.machine.proofs.Telling.{ready_rests, no_stack_rests, over_rests}
use Rattle.machine.proofs.Granting.{granted_goes, refused_stands, owned_same, stopped}
use Rattle.machine.specs.Places.{Rule}

unrefused : (o : Option ℕ) (stack : Option ℕ) (otherwise : State) → shortage o stack otherwise ≡ waiting → o ≡ none
unrefused none stack otherwise e = refl
unrefused (some n) stack otherwise e = let z : ◌≡◌ {A = ℕ} 0 1 = cc in absurd (omega arith)

-- a run that waits is on its way, with the value that it waits with
pub on_the_way : (rule : Rule) (lists : Lists Value) (r : Room) (left : ℕ) (root : Root) (run : Machine)
    (s : Reckoned) → run.state ≡ told.Waiting →
    StandsAt rule lists r left root run s → OnTheWay rule lists r left root run.table (next.Value run.focus) s
on_the_way rule lists r left root run s e h =
    record {
      left_free = h.left_free;
      lists_made = h.lists_made;
      not_refused = unrefused s.refused (one_too_many s.work) (ahead s.work (move s.work)) (sym h.in_state
          ∙ ap state_of e);
      follows = (h.ready e).found;
    }

module _ (rule : Rule) (lists lists' : Lists Value) (r : Room) (left left' steps_left : ℕ) (root : Root)
    (table table' : Operations) (from : Next) (s : Reckoned)
    (o : OnTheWay rule lists r left root table from s) where
  -- no reduction: the run is still on its way
  pub nearer : (to : Next) → Goes rule r lists lists' left left' steps_left table' (Nearer to) s.work
      → OnTheWay rule lists' r left' root table' to s
  nearer to g =
      record {
        left_free = g.1 ∙ o.left_free;
        lists_made = owned_same rule lists lists' root s.made g.0 o.lists_made;
        not_refused = o.not_refused;
        follows = g.2;
      }

  waits : one_too_many s.work ≡ none → ahead s.work (move s.work) ≡ waiting → state s ≡ waiting
  waits few e =
      ap (λ y. shortage y (one_too_many s.work) (ahead s.work (move s.work))) o.not_refused ∙
      ap (λ y. shortage none y (ahead s.work (move s.work))) few ∙ e

  moved_waits : (m : Move) (u : Work) → Moved rule r lists lists' left left' m u → ahead s.work m ≡ waiting
  moved_waits rests u m = absurd m
  moved_waits (beyond n) u m = absurd m
  moved_waits stuck u m = absurd m
  moved_waits (plain v) u m = refl
  moved_waits (makes n env v) u m = refl

  -- a reduction: one more, and the run goes on
  pub goes_on : (to : Next) → Goes rule r lists lists' left left' steps_left table' (On to) s.work →
      ((granted r s).count ≡ suc s.count) × OnTheWay rule lists' r left' root table' to (granted r s)
  goes_on to g =
      let u = g.2 in
      let m = g.3 in
      let went = granted_goes rule lists lists' r left left' root s u (waits g.1 (moved_waits (move s.work) u m))
      o.left_free o.lists_made m in (
        went.count,
        record {
          left_free = went.left_free;
          lists_made = went.lists_made;
          not_refused = went.refused;
          follows = subst (λ y. Follows rule lists' table' to y) (sym went.work) g.4;
        },
      )

  rests_stands : (run : Machine) → Same lists lists' → left' ≡ left → run.count ≡ s.count →
      state_of run.state ≡ shortage none (one_too_many s.work) (ahead s.work (move s.work)) →
      (run.state ≡ told.Waiting → Readied rule lists' run.table run.focus s.work)
      → StandsAt rule lists' r left' root run s
  rests_stands run same still c e ready =
      record {
        in_state = e ∙ ap (λ y. shortage y (one_too_many s.work) (ahead s.work (move s.work))) (sym o.not_refused);
        counted = c;
        left_free = still ∙ o.left_free;
        lists_made = owned_same rule lists lists' root s.made same o.lists_made;
        ready = ready;
      }

  -- no step is left: the run waits, or its sum is known to leave the range
  pub waits_there : (x : Value) (run : Machine) → Goes rule r lists lists' left left' steps_left table'
      (Waits x) s.work → table'.depth ≤ 256 → run.table ≡ table' → run.focus ≡ x →
      run.count ≡ s.count → state_of run.state ≡ ahead s.work (move s.work) → StandsAt rule lists' r left' root run s
  waits_there x run g low same_table same_focus c e =
      rests_stands run g.1 g.2 c (ready_rests rule lists' table' x s.work (state_of run.state) low g.3 e)
      (λ w. subst (λ y. Readied rule lists' run.table y s.work) (sym same_focus)
      (subst (λ y. Readied rule lists' y x s.work) (sym same_table) g.3))

  ended : (st : told_state.State) (run : Machine) → (st ≢ told.Waiting) → Same lists lists' → left' ≡ left →
      state_of st ≡ shortage none (one_too_many s.work) (ahead s.work (move s.work)) → run.state ≡ st
      → run.count ≡ s.count → StandsAt rule lists' r left' root run (steps r steps_left s)
  ended st run not same still tells e c =
      let waits_not : run.state ≡ told.Waiting → ⊥ = λ w. not (sym e ∙ w) in
      stopped rule lists' r left' root run s 0 steps_left (omega arith) waits_not (rests_stands run same still c
      (ap state_of e ∙ tells) (λ w. absurd (waits_not w)))

  -- the run has ended, and stays where it is
  pub ends : (st : told_state.State) (run : Machine) → Goes rule r lists lists' left left' steps_left table'
      (Ended st) s.work → run.state ≡ st → run.count ≡ s.count →
      StandsAt rule lists' r left' root run (steps r steps_left s)
  ends told.Waiting run g e c = absurd g.2
  ends (told.Done x) run g e c =
      ended (told.Done x) run (λ w. let z : ◌≡◌ {A = ℕ} 0 1 = cc in omega arith) g.0 g.1
      (over_rests rule lists' table' x s.work g.2.0 g.2.1) e c
  ends (told.Range n out) run g e c =
      ended (told.Range n out) run (λ w. let z : ◌≡◌ {A = ℕ} 0 1 = cc in omega arith) g.0 g.1
      (sym (ap (λ y. shortage none y (ahead s.work (move s.work))) g.2.0 ∙ ap (λ y. ahead s.work y) g.2.1)) e c
  ends (told.NoStack n) run g e c =
      ended (told.NoStack n) run (λ w. let z : ◌≡◌ {A = ℕ} 0 1 = cc in omega arith) g.0 g.1
      (no_stack_rests rule lists' table' s.work n g.2) e c
  ends (told.NoStore n) run g e c =
      let lack = g.2 in
      let waits_not : run.state ≡ told.Waiting → ⊥ = λ w. let f : told.NoStore n ≡ told.Waiting = sym e ∙ w in
      let z : ◌≡◌ {A = ℕ} 0 1 = cc in omega arith in
      let some_left = lack.0 in
      stopped rule lists' r left' root run s 1 steps_left (omega arith) waits_not
      (refused_stands rule lists lists' r left left' root s n lack.2 lack.3 run
      (waits lack.1 (ap (λ y. ahead s.work y) lack.4)) o.left_free o.lists_made lack.4 lack.5 g.0 g.1 c e)
