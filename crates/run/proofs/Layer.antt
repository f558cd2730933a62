-- Readings behind every list of a store, and where a run on them begins.
use Rattle.std.proofs.Common.{◌≡◌, ℕ, ◌+◌, ◌-◌, ℤ, pos, List, [], ◌∷◌, map, length, refl, sym, ap, ◌∙◌, arith}
use Rattle.std.proofs.Math.Path.{fun_ext}
use Rattle.syntax.specs.Tree.{Tree}
use Rattle.syntax.specs.declared.node.Node.{Node}
use Rattle.store.specs.Lists.{Lists, Cleared}
use Rattle.values.specs.declared.Value.{Value}
use Rattle.values.specs.declared.Value.TheVariants.{Number, Truth, Function}
use Rattle.readings.specs.Behind.{as_values, cost_below}
use Rattle.record.specs.declared.received.Received.{Received}
use Rattle.record.specs.Reading.{IsTree}
use Rattle.reckoning.specs.Environments.{base}
use Rattle.reckoning.specs.Room.{Room}
use Rattle.reckoning.specs.Room as reckoning
use Rattle.machine.specs.Handles.{AllStandFor}
use Rattle.machine.specs.Places.{Rule, rule_of}
use Rattle.machine.specs.Reducing.{room_of}
use Rattle.machine.specs.Running.{Begins}

abbrev number_in : Value → ℤ
number_in (Number k) = k
number_in (Truth b) = pos 0
number_in (Function n h) = pos 0

numbers_in_values : (numbers : List ℤ) → map number_in (as_values numbers) ≡ numbers
numbers_in_values [] = refl
numbers_in_values (k ∷ numbers) = ap (λ l. k ∷ l) (numbers_in_values numbers)

pub as_values_injective : (xs ys : List ℤ) → as_values xs ≡ as_values ys → xs ≡ ys
as_values_injective xs ys e = sym (numbers_in_values xs) ∙ ap (λ l. map number_in l) e ∙ numbers_in_values ys

pub length_as_values : (numbers : List ℤ) → length (as_values numbers) ≡ length numbers
length_as_values [] = refl
length_as_values (k ∷ numbers) = let e = length_as_values numbers in omega arith

pub cost_below_injective : (rs : List Value) (cost cost' : ℕ → ℕ) → cost_below rs cost ≡ cost_below rs cost'
    → cost ≡ cost'
cost_below_injective rs cost cost' e = fun_ext at
  where
    at : (n : ℕ) → cost n ≡ cost' n
    at n =
        let back : n + length rs - length rs ≡ n = omega arith in
        ap cost (sym back) ∙ ap (λ f. f (n + length rs)) e ∙ ap cost' back

-- the room of the layer is that of the store below with the readings behind every list
pub room_behind : (readings : List ℤ) (whole : ℕ) (cost : ℕ → ℕ) →
    room_of whole (cost_below (as_values readings) cost) ≡ reckoning.behind (length readings) (room_of whole cost)
room_behind readings whole cost = ap (λ r. reckoning.behind r (room_of whole cost)) (length_as_values readings)

-- its readings are as many run values
pub rule_behind : (ns : List Node) (readings : List ℤ) → rule_of ns (as_values readings) ≡ rule_of ns readings
rule_behind ns readings = ap (λ r. let rule : Rule = record { nodes = ns; readings = r } in rule)
    (length_as_values readings)

pub readings_stand : (rule : Rule) (lists : Lists Value) (readings : List ℤ)
    → AllStandFor rule lists (as_values readings) (base readings)
readings_stand rule lists [] = tt
readings_stand rule lists (k ∷ readings) = (refl, readings_stand rule lists readings)

-- a layer that was just cleared, and the table of a rule
pub cleared_begins : (lists : Lists Value) (whole left : ℕ) (rule : Received) (t : Tree) (readings : List ℤ)
    → IsTree rule t →
    Cleared lists (as_values readings) whole left → Begins (rule_of rule.nodes.items (as_values readings)) lists whole
    left 0 t readings
cleared_begins lists whole left rule t readings is cleared =
    let counted = is.counted in
    record {
      holds = is.holds;
      inside = omega arith;
      as_many = length_as_values readings;
      environment = (
        as_values readings,
        cleared.root,
        readings_stand (rule_of rule.nodes.items (as_values readings))
            lists readings,
      );
      alone = λ k other. cleared.alone k (omega arith);
      unspent = cleared.unspent;
    }
