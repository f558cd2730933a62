-- Where a run begins.
use Rattle.std.proofs.Common.{List, [], ap, arith, length, refl, subst, suc, sym, ℕ, ℤ, ◌∷◌, ◌≡◌}
use Rattle.syntax.specs.Tree.{Tree}
use Rattle.store.specs.Lists.{Lists}
use Rattle.values.specs.declared.Value.{Value}
use Rattle.calculus.specs.Term.{numbered}
use Rattle.calculus.specs.Types.{Ty, RuleHas}
use Rattle.reckoning.specs.Environments.{base, size}
use Rattle.reckoning.specs.Room.{Room}
use Rattle.reckoning.specs.Reckoning.{begun}
use Rattle.reckoning.proofs.Reckoning.{follows_stages}
use Rattle.machine.specs.declared.operations.Operations.{Operations}
use Rattle.machine.specs.declared.next.Next.TheVariants as next
use Rattle.machine.specs.Places.{Rule, At}
use Rattle.machine.specs.Opens.{Stacked}
use Rattle.machine.specs.Standing.{Meets}
use Rattle.machine.specs.Reducing.{room_of}
use Rattle.machine.specs.Running.{OnTheWay, NeverStuck, Begins, rooted}

size_base : (readings : List ℤ) → size (base readings) ≡ length readings
size_base [] = refl
size_base (k ∷ readings) = ap suc (size_base readings)

module _ (rule : Rule) (lists : Lists Value) (whole left h : ℕ) (t : Tree) (readings : List ℤ)
    (b : Begins rule lists whole left h t readings) where
  begins_met : (table : Operations) → table.depth ≡ 0 → Meets rule lists table 0 h (begun readings t).work
  begins_met table e =
      let inside = b.inside in
      let names = size_base readings in
      let as_many = b.as_many in
      let at : At rule (size (base readings)) 0 (numbered 0 t) = record {
        tree = t;
        binders = 0;
        in_force =
            omega arith;
        holds = b.holds;
        inside = omega arith;
        is = refl;
      } in
      record {
        opens = [];
        term = numbered 0 t;
        env = base readings;
        stacked = subst (λ d. Stacked rule lists table.ops d []) (sym e) tt;
        at = at;
        environment = b.environment;
        whole = refl;
      }

  pub begins_on_the_way : (cost : ℕ → ℕ) (table : Operations) → table.depth ≡ 0
      → OnTheWay rule lists (room_of whole cost) left (rooted h readings) table
      (next.Node (record { place = 0; environment = h })) (begun readings t)
  begins_on_the_way cost table e =
      record {
        left_free = let e = b.unspent in omega arith;
        lists_made = record { handles = []; at_root = b.environment; own = tt; no_other = λ k n a. b.alone k n };
        not_refused = refl;
        follows = begins_met table e;
      }

-- a rule that has a type is never stuck
pub never_stuck : (room : Room) (t : Tree) (τ : Ty) (readings : List ℤ) → RuleHas (length readings) t τ
    → NeverStuck room (begun readings t)
never_stuck room t τ readings h n = (follows_stages room t τ readings h n).not_stuck
