-- A run stands where its machine does.
use Rattle.std.proofs.Common.{◌≡◌, ℕ, ◌+◌, ℤ, List, length, refl, sym, ap, ◌∙◌, subst, arith}
use Rattle.syntax.specs.Tree.{Tree}
use Rattle.store.specs.Lists.{Lists}
use Rattle.values.specs.declared.Value.{Value}
use Rattle.readings.specs.Behind.{as_values, behind, cost_below}
use Rattle.record.specs.Reading.{IsTree}
use Rattle.typing.specs.Accepting.{IsRule}
use Rattle.calculus.specs.Types.{Ty, RuleHas}
use Rattle.reckoning.specs.Room.{Room}
use Rattle.reckoning.specs.Reckoning.{Reckoned, begun, reckoned, steps}
use Rattle.machine.specs.Places.{rule_of}
use Rattle.machine.specs.Reducing.{room_of}
use Rattle.machine.specs.Running.{StandsAt, NeverStuck, rooted}
use Rattle.reckoning.proofs.Steps.{steps_add_up}
use Rattle.machine.proofs.Granting.{never_stuck_on, room_same}
use Rattle.machine.proofs.Beginning.{never_stuck}
use Rattle.run.specs.Standing.{Seen, nodes_of, IsAt, Keeps}
use Rattle.run.proofs.Layer.{room_behind, rule_behind}

module _ {S : Type 0} (lists : S → Lists Value) (whole room : S → ℕ) (cost : S → ℕ → ℕ) where
  -- the room of the store with the readings behind every list
  abbrev pub layer_room : Seen S → Room
  layer_room run = room_of (whole run.store) (cost_below (as_values run.readings) (cost run.store))

  -- the machine of a run stands where s is
  abbrev pub Stands : Seen S → Reckoned → Type 0
  Stands run s =
      StandsAt (rule_of (nodes_of run) (as_values run.readings)) (behind (as_values run.readings) (lists run.store))
      (layer_room run) (room run.store)
      (rooted 0 run.readings) run.machine s

  stands_at : (run : Seen S) (t : Tree) (g : ℕ) → IsRule run.rule (length run.readings) t →
      Stands run (reckoned (layer_room run) run.readings t g) → IsAt lists whole room cost run t run.readings g
  stands_at run t g rule stands =
      record {
        rule = rule;
        laid = refl;
        stands =
            subst (λ r. StandsAt (rule_of (nodes_of run) run.readings) (behind (as_values run.readings)
            (lists run.store)) r (room run.store)
            (rooted 0 run.readings) run.machine (reckoned r run.readings t g))
            (room_behind run.readings (whole run.store) (cost run.store))
            (subst (λ x. StandsAt x (behind (as_values run.readings) (lists run.store)) (layer_room run)
            (room run.store)
            (rooted 0 run.readings) run.machine (reckoned (layer_room run) run.readings t g))
            (rule_behind (nodes_of run) run.readings) stands);
      }

  pub at_where_stands : (run : Seen S) (t : Tree) (readings : List ℤ) (g : ℕ) → run.readings ≡ readings →
      IsRule run.rule (length run.readings) t → Stands run (reckoned (layer_room run) run.readings t g) →
      IsAt lists whole room cost run t readings g
  at_where_stands run t readings g laid rule stands =
      subst (λ rs. IsAt lists whole room cost run t rs g) laid (stands_at run t g rule stands)

  at_own : (run : Seen S) (t : Tree) (readings : List ℤ) (g : ℕ) → IsAt lists whole room cost run t readings g →
      IsAt lists whole room cost run t run.readings g
  at_own run t readings g at = subst (λ rs. IsAt lists whole room cost run t rs g) (sym at.laid) at

  pub stands_where_at : (run : Seen S) (t : Tree) (readings : List ℤ) (g : ℕ)
      → IsAt lists whole room cost run t readings g →
      Stands run (reckoned (layer_room run) run.readings t g)
  stands_where_at run t readings g at =
      subst (λ x. StandsAt x (behind (as_values run.readings) (lists run.store)) (layer_room run) (room run.store)
      (rooted 0 run.readings) run.machine (reckoned (layer_room run) run.readings t g))
      (sym (rule_behind (nodes_of run) run.readings))
      (subst (λ r. StandsAt (rule_of (nodes_of run) run.readings) (behind (as_values run.readings) (lists run.store))
      r (room run.store)
      (rooted 0 run.readings) run.machine (reckoned r run.readings t g))
      (sym (room_behind run.readings (whole run.store) (cost run.store))) (at_own run t readings g at).stands)

  pub never_stuck_here : (run : Seen S) (k : Keeps lists whole room cost run) →
      NeverStuck (layer_room run) (reckoned (layer_room run) run.readings k.tree k.granted)
  never_stuck_here run k =
      never_stuck_on (layer_room run) (begun run.readings k.tree) k.granted
      (never_stuck (layer_room run) k.tree k.type run.readings k.typed)

  -- a run that was started or rewound
  pub begun_at : (run : Seen S) (t : Tree) (readings : List ℤ) → run.readings ≡ readings → IsTree run.rule t →
      length readings ≡ run.rule.readings → Stands run (begun run.readings t)
      → IsAt lists whole room cost run t readings 0
  begun_at run t readings laid is many stands =
      at_where_stands run t readings 0 laid (is, sym many ∙ ap (λ rs. length rs) (sym laid)) stands

  pub begun_keeps : (run : Seen S) (t : Tree) (τ : Ty) → IsTree run.rule t → RuleHas run.rule.readings t τ →
      length run.readings ≡ run.rule.readings → Stands run (begun run.readings t) → Keeps lists whole room cost run
  begun_keeps run t τ is typed many stands =
      record {
        tree = t;
        type = τ;
        granted = 0;
        typed = subst (λ r. RuleHas r t τ) (sym many) typed;
        at = begun_at run t run.readings refl is many stands;
      }

  -- a run that was granted n steps
  module _ (old new : Seen S) (n : ℕ) (same_rule : new.rule ≡ old.rule) (same_readings : new.readings ≡ old.readings)
      (same_whole : whole new.store ≡ whole old.store) (same_cost : cost new.store ≡ cost old.store)
      (goes : (s : Reckoned) → Stands old s →
      StandsAt (rule_of (nodes_of old) (as_values old.readings)) (behind (as_values new.readings) (lists new.store))
      (layer_room old) (room new.store)
      (rooted 0 old.readings) new.machine (steps (layer_room old) n s)) where
    same_room : layer_room old ≡ layer_room new
    same_room =
        room_same (whole old.store) (whole new.store) (cost_below (as_values old.readings) (cost old.store))
        (cost_below (as_values new.readings) (cost new.store)) (sym same_whole)
        (ap (λ rs. cost_below (as_values rs) (cost old.store)) (sym same_readings) ∙
        ap (λ c. cost_below (as_values new.readings) c) (sym same_cost))

    pub granted_at : (t : Tree) (readings : List ℤ) (g : ℕ) → IsAt lists whole room cost old t readings g →
        IsAt lists whole room cost new t readings (g + n)
    granted_at t readings g at =
        let s = reckoned (layer_room old) old.readings t g in
        let there = goes s (stands_where_at old t readings g at) in
        let added : steps (layer_room old) n s ≡ reckoned (layer_room old) old.readings t (g + n) =
        steps_add_up (layer_room old) (begun old.readings t) n g
        ∙ ap (λ k. reckoned (layer_room old) old.readings t k) (commutes n g) in
        let one = subst (λ x. StandsAt (rule_of (nodes_of old) (as_values old.readings))
        (behind (as_values new.readings) (lists new.store)) (layer_room old) (room new.store)
        (rooted 0 old.readings) new.machine x) added there in
        let two = subst (λ r. StandsAt (rule_of (nodes_of old) (as_values old.readings))
        (behind (as_values new.readings) (lists new.store)) r (room new.store)
        (rooted 0 old.readings) new.machine (reckoned r old.readings t (g + n))) same_room one in
        let three = subst (λ rs. StandsAt (rule_of (nodes_of old) (as_values rs)) (behind (as_values new.readings)
        (lists new.store)) (layer_room new) (room new.store)
        (rooted 0 rs) new.machine (reckoned (layer_room new) rs t (g + n))) (sym same_readings) two in
        let four = subst (λ rule. StandsAt (rule_of rule.nodes.items (as_values new.readings))
        (behind (as_values new.readings) (lists new.store)) (layer_room new) (room new.store)
        (rooted 0 new.readings) new.machine (reckoned (layer_room new) new.readings t (g + n))) (sym same_rule) three in
        let laid : new.readings ≡ readings = same_readings ∙ at.laid in
        let rule : IsRule new.rule (length new.readings) t =
        subst (λ rs. IsRule new.rule (length rs) t) (sym laid) (subst (λ x. IsRule x (length readings) t)
        (sym same_rule) at.rule) in
        at_where_stands new t readings (g + n) laid rule four
      where
        commutes : (n g : ℕ) → n + g ≡ g + n
        commutes n g = omega arith

    pub granted_keeps : Keeps lists whole room cost old → Keeps lists whole room cost new
    granted_keeps k =
        record {
          tree = k.tree;
          type = k.type;
          granted = k.granted + n;
          typed = subst (λ rs. RuleHas (length rs) k.tree k.type) (sym same_readings) k.typed;
          at = subst (λ rs. IsAt lists whole room cost new k.tree rs (k.granted + n)) (sym same_readings)
              (granted_at k.tree old.readings k.granted k.at);
        }
