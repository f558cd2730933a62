-- What stands for a variable.
use Rattle.std.proofs.Common.{◌≡◌, ℕ, ◌+◌, ◌-◌, ◌<◌, ◌≤◌, List, ◌++◌, length, Some, None, Ok, Err, Result, get_or}
use Rattle.std.proofs.Common.{refl, sym, ap, ◌∙◌, subst, arith, length-append}
use Rattle.std.proofs.lemmas.List.{get_or_append_left, get_or-append_right}
use Rattle.syntax.specs.declared.node.Node.{Node}
use Rattle.syntax.specs.declared.node.Node.TheVariants as node
use Rattle.store.specs.Lists.{Lists, Looked}
use Rattle.store.specs.declared.fault.StoreFault.{StoreFault}
use Rattle.store.proofs.Told.{ok_err}
use Rattle.values.specs.declared.Value.{Value}
use Rattle.readings.specs.Behind.{added, Picked}
use Rattle.readings.proofs.Layered.{added_some}
use Rattle.record.specs.Nodes.{node_at}
use Rattle.calculus.specs.Term.{Term}
use Rattle.reckoning.specs.Environments.{Env, size}
use Rattle.reckoning.specs.Work.{unbound, found, met}
use Rattle.reckoning.specs.Moves.{move}
use Rattle.reckoning.specs.Contexts.{plugged}
use Rattle.machine.specs.Places.{At, rule_of}
use Rattle.machine.specs.Handles.{StandsFor, IsListOf}
use Rattle.machine.specs.Leaves.{AtOnce, GoesOn}
use Rattle.machine.proofs.Placing.{shape}
use Rattle.machine.proofs.Keeping.{all_length}
use Rattle.machine.proofs.Entering.{listed, unlisted, stuck_inside}

ok_ok : {X Y : Type 0} {x y : X} → ◌≡◌ {A = Result X Y} (Ok x) (Ok y) → x ≡ y
ok_ok e = cc

-- the readings are the base list, and stand behind the binders of every list
module _ (ns : List Node) (base readings : List Value) (same_readings : base ≡ readings) (lists binders : Lists Value)
    (laid : (h : ℕ) → lists h ≡ added readings (binders h)) where
  behind : (h : ℕ) → lists h ≡ added base (binders h)
  behind h = laid h ∙ ap (λ l. added l (binders h)) (sym same_readings)

  -- an environment's list: its binders, and behind them the readings
  record Split (h : ℕ) (env : Env) (l : List Value) : Type 0 where
    pub front : List Value
    pub known : binders h ≡ Some front
    pub is : l ≡ front ++ base
    pub counted : size env ≡ length front + length base

  split : (h : ℕ) (env : Env) (i : IsListOf (rule_of ns base) lists h env) → Split h env i.0
  split h env i =
      let s = added_some base (binders h) i.0 (sym (behind h) ∙ i.1) in
      record {
        front = s.0;
        known = s.1;
        is = s.2;
        counted = sym (all_length (rule_of ns base) lists i.0 env i.2) ∙ ap length s.2 ∙ length-append s.0 base;
      }

  module _ (p h : ℕ) (t : Term) (env : Env) (a : At (rule_of ns base) (size env) p t)
      (i : IsListOf (rule_of ns base) lists h env) where
    -- the value at a distance is the variable's
    at_distance : (d : ℕ) (x : Value) → t ≡ Term.variable d → d < size env → x ≡ get_or i.0 d x
        → AtOnce (rule_of ns base) lists t env (Some x)
    at_distance d x is inside same =
        let long = all_length (rule_of ns base) lists i.0 env i.2 in
        let v = listed (rule_of ns base) lists i.0 env d x i.2 (omega arith) in (
          v.0,
          ap (λ y. met y env) is ∙ ap (λ o. found o d) v.1,
          subst (λ z. StandsFor (rule_of ns base) lists z v.0)
              (sym same) v.2,
        )

    -- a binder's value is found among the binders
    binder_there : (d : ℕ) (r : Result Value StoreFault) → node.Variable d ≡ node_at ns p → Looked binders h d r →
        (x : Value) × (r ≡ Ok x) × AtOnce (rule_of ns base) lists t env (Some x)
    binder_there d r e looked =
        let s = split h env i in
        let is = shape (rule_of ns base) (size env) p t (node.Variable d) a e in
        let near = is.1 in
        let counted = s.counted in
        let inner : d < length s.front = omega arith in
        let x = (looked.listed s.front s.known).found inner in
        let same : x.0 ≡ get_or i.0 d x.0 = x.2 ∙ sym (get_or_append_left s.front base x.0 d inner)
        ∙ ap (λ l. get_or l d x.0) (sym s.is) in
        (x.0, x.1, at_distance d x.0 is.0 (omega arith) same)

    pub binder_at_once : (d : ℕ) (x : Value) → node.Variable d ≡ node_at ns p → Looked binders h d (Ok x)
        → AtOnce (rule_of ns base) lists t env (Some x)
    binder_at_once d x e looked =
        let there = binder_there d (Ok x) e looked in
        subst (λ y. AtOnce (rule_of ns base) lists t env (Some y)) (sym (ok_ok there.1)) there.2

    -- a reading's value is the reading
    pub reading_at_once : (j : ℕ) (x : Value) → node.Reading j ≡ node_at ns p → Picked readings j (Some x)
        → AtOnce (rule_of ns base) lists t env (Some x)
    reading_at_once j x e told =
        let picked = subst (λ l. Picked l j (Some x)) (sym same_readings) told in
        let s = split h env i in
        let is = shape (rule_of ns base) (size env) p t (node.Reading j) a e in
        let d = is.0 in
        let far = is.2 in
        let counted = s.counted in
        let few = picked.0 in
        let outer : length s.front ≤ d = omega arith in
        let place : j ≡ d - length s.front = omega arith in
        let same : x ≡ get_or i.0 d x =
        picked.1 ∙ ap (λ k. get_or base k x) place
        ∙ sym (get_or-append_right s.front base (length s.front) d x refl outer)
        ∙ ap (λ l. get_or l d x) (sym s.is) in
        at_distance d x is.1 (omega arith) same

  -- a binder always has a value
  pub no_binder : (p h d : ℕ) (f : StoreFault) → node.Variable d ≡ node_at ns p → Looked binders h d (Err f)
      → GoesOn (rule_of ns base) lists p h → ⊥
  no_binder p h d f e looked g =
      let there = binder_there p h g.term g.env g.at g.environment d (Err f) e looked in
      ok_err {X = Value} {Y = StoreFault} there.1 refl

  -- a work that goes on has each of its readings
  pub no_reading : (p h j : ℕ) → node.Reading j ≡ node_at ns p → Picked readings j None
      → GoesOn (rule_of ns base) lists p h → ⊥
  no_reading p h j e told g =
      let picked = subst (λ l. Picked l j None) (sym same_readings) told in
      let i = g.environment in
      let s = split h g.env i in
      let is = shape (rule_of ns base) (size g.env) p g.term (node.Reading j) g.at e in
      let d = is.0 in
      let far = is.2 in
      let counted = s.counted in
      let long = all_length (rule_of ns base) lists i.0 g.env i.2 in
      let nothing : met g.term g.env ≡ unbound d = ap (λ t. met t g.env) is.1
      ∙ ap (λ o. found o d) (unlisted (rule_of ns base) lists i.0 g.env d i.2 (omega arith)) in
      g.goes_on (ap (λ y. move (plugged g.opens y)) nothing ∙ stuck_inside (rule_of ns base) lists g.opens d)
