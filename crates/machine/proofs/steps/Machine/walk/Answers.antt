use Rattle.std.proofs.Common.{◌≡◌, ◌+◌, ◌-◌, ◌*◌, suc, length, refl, sym, ap, ◌∙◌, subst, arith}
use Rattle.reckoning.specs.Reckoning.{steps}
use Rattle.reckoning.proofs.Steps.{steps_add_up}
use Rattle.machine.specs.declared.next.Gone.TheVariants.{Nearer, On, Waits, Ended}
use Rattle.machine.specs.declared.steps.Machine.{Machine}
use Rattle.machine.specs.Reducing.{room_of}
use Rattle.machine.specs.Standing.{Follows}
use Rattle.machine.specs.Going.{Goes}
use Rattle.machine.specs.Running.{StandsAt, OnTheWay}
use Rattle.machine.proofs.Extents.{to_go_bounded}
use Rattle.machine.proofs.Granting.{room_same}
use Rattle.machine.proofs.Going.{nearer, goes_on, waits_there, ends}
use Rattle.machine.proofs.steps.Machine.walk.Goals as goal
use Rattle.machine.specs.Places.{rule_of}

pub go_on-requires : goal.go_on-requires
go_on-requires g c =
    let same_rule : (rule_of c.args.nodes.now (g.W.Store.base c.loop-to.store)) ≡
    (rule_of c.args.nodes.now (g.W.Store.base c.args.store.now)) = ap (λ b. rule_of c.args.nodes.now b)
    c.loop-to.invariant.base in
    let h = c.requires.goes_on in
    let gone = c.args.granted - c.loop-to.left in
    record {
      follows = (
        (steps (room_of (g.W.Store.whole c.args.store.now) (g.W.Store.cost c.args.store.now)) gone
            h.1).work,
        (subst (λ y. Follows y (g.W.Store.lists c.loop-to.store) c.loop-to.self.table c.loop-to.next
            (steps (room_of (g.W.Store.whole c.args.store.now) (g.W.Store.cost c.args.store.now))
            (c.args.granted - c.loop-to.left) h.1).work) (sym same_rule)
            (c.loop-to.invariant.goes h.0 h.1 h.2).1.follows),
        h.3 gone (omega arith),
      );
    }

pub loop-to-preserved-in-Nearer : goal.loop-to-preserved-in-Nearer
loop-to-preserved-in-Nearer g c =
    let same_rule : (rule_of c.args.nodes.now (g.W.Store.base c.loop-to.store)) ≡
    (rule_of c.args.nodes.now (g.W.Store.base c.args.store.now)) = ap (λ b. rule_of c.args.nodes.now b)
    c.loop-to.invariant.base in
    let same : (room_of (g.W.Store.whole c.loop-to.store) (g.W.Store.cost c.loop-to.store)) ≡
    (room_of (g.W.Store.whole c.args.store.now) (g.W.Store.cost c.args.store.now)) =
    room_same _ _ _ _ c.loop-to.invariant.whole c.loop-to.invariant.cost in
    record {
      goes = λ root s o.
          let here = steps (room_of (g.W.Store.whole c.args.store.now) (g.W.Store.cost c.args.store.now))
          (c.args.granted - c.loop-to.left) s in
          let way = c.loop-to.invariant.goes root s o in
          let went = subst (λ r. Goes (rule_of c.args.nodes.now (g.W.Store.base c.args.store.now)) r
          (g.W.Store.lists c.loop-to.store) (g.W.Store.lists c.go_on.new.store) (g.W.Store.room c.loop-to.store)
          (g.W.Store.room c.go_on.new.store) c.loop-to.left c.go_on.new.table (Nearer c.in-Nearer.to) here.work)
          same
          (subst (λ y. Goes y (room_of (g.W.Store.whole c.loop-to.store) (g.W.Store.cost c.loop-to.store))
          (g.W.Store.lists c.loop-to.store) (g.W.Store.lists c.go_on.new.store) (g.W.Store.room c.loop-to.store)
          (g.W.Store.room c.go_on.new.store) c.loop-to.left c.go_on.new.table (Nearer c.in-Nearer.to) here.work)
          same_rule
          (c.in-Nearer.ensures.goes here.work
          (subst (λ y. Follows y (g.W.Store.lists c.loop-to.store) c.loop-to.self.table c.loop-to.next here.work)
          (sym same_rule) way.1.follows))) in (
            way.0,
            nearer (rule_of c.args.nodes.now (g.W.Store.base c.args.store.now))
                (g.W.Store.lists c.loop-to.store) (g.W.Store.lists c.go_on.new.store)
                (room_of (g.W.Store.whole c.args.store.now) (g.W.Store.cost c.args.store.now))
                (g.W.Store.room c.loop-to.store) (g.W.Store.room c.go_on.new.store) c.loop-to.left root
                c.loop-to.self.table c.go_on.new.table c.loop-to.next here way.1 c.in-Nearer.to went,
          );
      few = c.loop-to.invariant.few;
      count = c.loop-to.invariant.count;
      still = λ e. let few = c.loop-to.invariant.few in c.go_on.ensures.still (omega arith)
          ∙ c.loop-to.invariant.still e;
      base = c.go_on.ensures.base ∙ c.loop-to.invariant.base;
      whole = c.go_on.ensures.whole ∙ c.loop-to.invariant.whole;
      cost = c.go_on.ensures.cost ∙ c.loop-to.invariant.cost;
    }

pub overflow_sub-left : goal.overflow_sub-left
overflow_sub-left g c =
    let same_rule : (rule_of c.args.nodes.now (g.W.Store.base c.loop-to.store)) ≡
    (rule_of c.args.nodes.now (g.W.Store.base c.args.store.now)) = ap (λ b. rule_of c.args.nodes.now b)
    c.loop-to.invariant.base in
    let h = c.requires.goes_on in
    let way = c.loop-to.invariant.goes h.0 h.1 h.2 in
    let some = (c.in-On.ensures.goes _ (subst (λ y. Follows y (g.W.Store.lists c.loop-to.store) c.loop-to.self.table
    c.loop-to.next (steps (room_of (g.W.Store.whole c.args.store.now) (g.W.Store.cost c.args.store.now))
    (c.args.granted - c.loop-to.left) h.1).work) (sym same_rule) way.1.follows)).0 in
    omega arith

pub loop-to-smaller : goal.loop-to-smaller
loop-to-smaller g c =
    let same_rule : (rule_of c.args.nodes.now (g.W.Store.base c.loop-to.store)) ≡
    (rule_of c.args.nodes.now (g.W.Store.base c.args.store.now)) = ap (λ b. rule_of c.args.nodes.now b)
    c.loop-to.invariant.base in
    let h = c.requires.goes_on in
    let way = c.loop-to.invariant.goes h.0 h.1 h.2 in
    let went = c.in-On.ensures.goes _ (subst (λ y. Follows y (g.W.Store.lists c.loop-to.store) c.loop-to.self.table
    c.loop-to.next (steps (room_of (g.W.Store.whole c.args.store.now) (g.W.Store.cost c.args.store.now))
    (c.args.granted - c.loop-to.left) h.1).work) (sym same_rule) way.1.follows) in
    let some = went.0 in
    let most = 2 * (257 * length c.args.nodes.now) + 2 in
    let less = to_go_bounded (rule_of c.args.nodes.now (g.W.Store.base c.loop-to.store))
    (g.W.Store.lists c.go_on.new.store) c.go_on.new.table c.in-On.to went.2 c.go_on.new.table.low went.4 in
    let e : c.loop-to.left ≡ suc (c.loop-to.left - 1) = omega arith in
    let times : c.loop-to.left * most ≡ suc (c.loop-to.left - 1) * most = ap (λ i. i * most) e in
    let more : suc (c.loop-to.left - 1) * most ≡ most + (c.loop-to.left - 1) * most = omega arith in
    omega arith

pub loop-to-preserved : goal.loop-to-preserved
loop-to-preserved g c =
    let same_rule : (rule_of c.args.nodes.now (g.W.Store.base c.loop-to.store)) ≡
    (rule_of c.args.nodes.now (g.W.Store.base c.args.store.now)) = ap (λ b. rule_of c.args.nodes.now b)
    c.loop-to.invariant.base in
    let same : (room_of (g.W.Store.whole c.loop-to.store) (g.W.Store.cost c.loop-to.store)) ≡
    (room_of (g.W.Store.whole c.args.store.now) (g.W.Store.cost c.args.store.now)) =
    room_same _ _ _ _ c.loop-to.invariant.whole c.loop-to.invariant.cost in
    let h = c.requires.goes_on in
    let first = c.loop-to.invariant.goes h.0 h.1 h.2 in
    let some = (c.in-On.ensures.goes _ (subst (λ y. Follows y (g.W.Store.lists c.loop-to.store) c.loop-to.self.table
    c.loop-to.next (steps (room_of (g.W.Store.whole c.args.store.now) (g.W.Store.cost c.args.store.now))
    (c.args.granted - c.loop-to.left) h.1).work) (sym same_rule) first.1.follows)).0 in
    let few = c.loop-to.invariant.few in
    let one_more : suc (c.args.granted - c.loop-to.left) ≡ c.args.granted - (c.loop-to.left - 1) = omega arith in
    record {
      goes = λ root s o.
          let here = steps (room_of (g.W.Store.whole c.args.store.now) (g.W.Store.cost c.args.store.now))
          (c.args.granted - c.loop-to.left) s in
          let way = c.loop-to.invariant.goes root s o in
          let went = subst (λ r. Goes (rule_of c.args.nodes.now (g.W.Store.base c.args.store.now)) r
          (g.W.Store.lists c.loop-to.store) (g.W.Store.lists c.go_on.new.store) (g.W.Store.room c.loop-to.store)
          (g.W.Store.room c.go_on.new.store) c.loop-to.left c.go_on.new.table (On c.in-On.to) here.work) same
          (subst (λ y. Goes y (room_of (g.W.Store.whole c.loop-to.store) (g.W.Store.cost c.loop-to.store))
          (g.W.Store.lists c.loop-to.store) (g.W.Store.lists c.go_on.new.store) (g.W.Store.room c.loop-to.store)
          (g.W.Store.room c.go_on.new.store) c.loop-to.left c.go_on.new.table (On c.in-On.to) here.work) same_rule
          (c.in-On.ensures.goes here.work
          (subst (λ y. Follows y (g.W.Store.lists c.loop-to.store) c.loop-to.self.table c.loop-to.next here.work)
          (sym same_rule) way.1.follows))) in
          let on = goes_on (rule_of c.args.nodes.now (g.W.Store.base c.args.store.now))
          (g.W.Store.lists c.loop-to.store) (g.W.Store.lists c.go_on.new.store)
          (room_of (g.W.Store.whole c.args.store.now) (g.W.Store.cost c.args.store.now))
          (g.W.Store.room c.loop-to.store) (g.W.Store.room c.go_on.new.store) c.loop-to.left root
          c.loop-to.self.table c.go_on.new.table c.loop-to.next here way.1 c.in-On.to went in
          let counted = way.0 in
          let one = on.0 in
          subst (λ k. ((steps (room_of (g.W.Store.whole c.args.store.now) (g.W.Store.cost c.args.store.now)) k
          s).count ≡ s.count + k) × OnTheWay (rule_of c.args.nodes.now (g.W.Store.base c.args.store.now))
          (g.W.Store.lists c.go_on.new.store) (room_of (g.W.Store.whole c.args.store.now)
          (g.W.Store.cost c.args.store.now)) (g.W.Store.room c.go_on.new.store) root c.go_on.new.table c.in-On.to
          (steps (room_of (g.W.Store.whole c.args.store.now) (g.W.Store.cost c.args.store.now)) k s))
          one_more (omega arith, on.1);
      few = omega arith;
      count = c.loop-to.invariant.count;
      still = λ e. absurd (omega arith);
      base = c.go_on.ensures.base ∙ c.loop-to.invariant.base;
      whole = c.go_on.ensures.whole ∙ c.loop-to.invariant.whole;
      cost = c.go_on.ensures.cost ∙ c.loop-to.invariant.cost;
    }

pub ahead-self-requires : goal.ahead-self-requires
ahead-self-requires g c =
    let same_rule : (rule_of c.args.nodes.now (g.W.Store.base c.loop-to.store)) ≡
    (rule_of c.args.nodes.now (g.W.Store.base c.args.store.now)) = ap (λ b. rule_of c.args.nodes.now b)
    c.loop-to.invariant.base in
    let h = c.requires.goes_on in
    let way = c.loop-to.invariant.goes h.0 h.1 h.2 in
    (c.in-Waits.ensures.goes _ (subst (λ y. Follows y (g.W.Store.lists c.loop-to.store) c.loop-to.self.table
    c.loop-to.next (steps (room_of (g.W.Store.whole c.args.store.now) (g.W.Store.cost c.args.store.now))
    (c.args.granted - c.loop-to.left) h.1).work) (sym same_rule) way.1.follows)).3.some_open

pub returns-in-Waits-clause-goes : goal.returns-in-Waits-clause-goes
returns-in-Waits-clause-goes g c root s o e =
    let same_rule : (rule_of c.args.nodes.now (g.W.Store.base c.loop-to.store)) ≡
    (rule_of c.args.nodes.now (g.W.Store.base c.args.store.now)) = ap (λ b. rule_of c.args.nodes.now b)
    c.loop-to.invariant.base in
    let same : (room_of (g.W.Store.whole c.loop-to.store) (g.W.Store.cost c.loop-to.store)) ≡
    (room_of (g.W.Store.whole c.args.store.now) (g.W.Store.cost c.args.store.now)) =
    room_same _ _ _ _ c.loop-to.invariant.whole c.loop-to.invariant.cost in
    let here = steps (room_of (g.W.Store.whole c.args.store.now) (g.W.Store.cost c.args.store.now))
    (c.args.granted - c.loop-to.left) s in
    let way = c.loop-to.invariant.goes root s o in
    let went = subst (λ r. Goes (rule_of c.args.nodes.now (g.W.Store.base c.args.store.now)) r
    (g.W.Store.lists c.loop-to.store) (g.W.Store.lists c.go_on.new.store) (g.W.Store.room c.loop-to.store)
    (g.W.Store.room c.go_on.new.store) c.loop-to.left c.go_on.new.table (Waits c.in-Waits.value) here.work) same
    (subst (λ y. Goes y (room_of (g.W.Store.whole c.loop-to.store) (g.W.Store.cost c.loop-to.store))
    (g.W.Store.lists c.loop-to.store) (g.W.Store.lists c.go_on.new.store) (g.W.Store.room c.loop-to.store)
    (g.W.Store.room c.go_on.new.store) c.loop-to.left c.go_on.new.table (Waits c.in-Waits.value) here.work)
    same_rule
    (c.in-Waits.ensures.goes here.work (subst (λ y. Follows y (g.W.Store.lists c.loop-to.store) c.loop-to.self.table
    c.loop-to.next here.work) (sym same_rule) way.1.follows))) in
    let none = went.0 in
    let all : c.args.granted - c.loop-to.left ≡ c.args.granted = omega arith in
    let counted = way.0 in
    let still = c.loop-to.invariant.count in
    let count = c.loop-to.self.count + c.args.granted in
    let run : Machine = record {
      table = c.go_on.new.table;
      focus = c.in-Waits.value;
      count = count;
      state =
          c.ahead-self.result;
    } in
    let stands = waits_there (rule_of c.args.nodes.now (g.W.Store.base c.args.store.now))
    (g.W.Store.lists c.loop-to.store) (g.W.Store.lists c.go_on.new.store)
    (room_of (g.W.Store.whole c.args.store.now) (g.W.Store.cost c.args.store.now))
    (g.W.Store.room c.loop-to.store) (g.W.Store.room c.go_on.new.store) c.loop-to.left root c.loop-to.self.table
    c.go_on.new.table c.loop-to.next here way.1 c.in-Waits.value run went c.go_on.new.table.low refl refl
    (omega arith)
    (c.ahead-self.ensures (rule_of c.args.nodes.now (g.W.Store.base c.args.store.now))
    (g.W.Store.lists c.go_on.new.store) here.work went.3) in
    subst (λ k. StandsAt (rule_of c.args.nodes.now (g.W.Store.base c.args.store.now))
    (g.W.Store.lists c.go_on.new.store) (room_of (g.W.Store.whole c.args.store.now)
    (g.W.Store.cost c.args.store.now)) (g.W.Store.room c.go_on.new.store) root run
    (steps (room_of (g.W.Store.whole c.args.store.now) (g.W.Store.cost c.args.store.now)) k s)) all stands

pub returns-in-Ended-clause-goes : goal.returns-in-Ended-clause-goes
returns-in-Ended-clause-goes g c root s o e =
    let same_rule : (rule_of c.args.nodes.now (g.W.Store.base c.loop-to.store)) ≡
    (rule_of c.args.nodes.now (g.W.Store.base c.args.store.now)) = ap (λ b. rule_of c.args.nodes.now b)
    c.loop-to.invariant.base in
    let same : (room_of (g.W.Store.whole c.loop-to.store) (g.W.Store.cost c.loop-to.store)) ≡
    (room_of (g.W.Store.whole c.args.store.now) (g.W.Store.cost c.args.store.now)) =
    room_same _ _ _ _ c.loop-to.invariant.whole c.loop-to.invariant.cost in
    let here = steps (room_of (g.W.Store.whole c.args.store.now) (g.W.Store.cost c.args.store.now))
    (c.args.granted - c.loop-to.left) s in
    let way = c.loop-to.invariant.goes root s o in
    let went = subst (λ r. Goes (rule_of c.args.nodes.now (g.W.Store.base c.args.store.now)) r
    (g.W.Store.lists c.loop-to.store) (g.W.Store.lists c.go_on.new.store) (g.W.Store.room c.loop-to.store)
    (g.W.Store.room c.go_on.new.store) c.loop-to.left c.go_on.new.table (Ended c.in-Ended.state) here.work) same
    (subst (λ y. Goes y (room_of (g.W.Store.whole c.loop-to.store) (g.W.Store.cost c.loop-to.store))
    (g.W.Store.lists c.loop-to.store) (g.W.Store.lists c.go_on.new.store) (g.W.Store.room c.loop-to.store)
    (g.W.Store.room c.go_on.new.store) c.loop-to.left c.go_on.new.table (Ended c.in-Ended.state) here.work)
    same_rule
    (c.in-Ended.ensures.goes here.work (subst (λ y. Follows y (g.W.Store.lists c.loop-to.store) c.loop-to.self.table
    c.loop-to.next here.work) (sym same_rule) way.1.follows))) in
    let few = c.loop-to.invariant.few in
    let all : c.loop-to.left + (c.args.granted - c.loop-to.left) ≡ c.args.granted = omega arith in
    let counted = way.0 in
    let still = c.loop-to.invariant.count in
    let count = c.loop-to.self.count + (c.args.granted - c.loop-to.left) in
    let run : Machine = record {
      table = c.go_on.new.table;
      focus = c.loop-to.self.focus;
      count = count;
      state =
          c.in-Ended.state;
    } in
    let stands = ends (rule_of c.args.nodes.now (g.W.Store.base c.args.store.now)) (g.W.Store.lists c.loop-to.store)
    (g.W.Store.lists c.go_on.new.store) (room_of (g.W.Store.whole c.args.store.now)
    (g.W.Store.cost c.args.store.now)) (g.W.Store.room c.loop-to.store) (g.W.Store.room c.go_on.new.store)
    c.loop-to.left root c.loop-to.self.table c.go_on.new.table c.loop-to.next here way.1 c.in-Ended.state run went
    refl (omega arith) in
    subst (λ t. StandsAt (rule_of c.args.nodes.now (g.W.Store.base c.args.store.now))
    (g.W.Store.lists c.go_on.new.store) (room_of (g.W.Store.whole c.args.store.now)
    (g.W.Store.cost c.args.store.now)) (g.W.Store.room c.go_on.new.store) root run t)
    (steps_add_up (room_of (g.W.Store.whole c.args.store.now) (g.W.Store.cost c.args.store.now)) s c.loop-to.left
    (c.args.granted - c.loop-to.left)
    ∙ ap (λ k. steps (room_of (g.W.Store.whole c.args.store.now) (g.W.Store.cost c.args.store.now)) k s) all) stands
