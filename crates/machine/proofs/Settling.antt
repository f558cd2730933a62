-- The innermost operation is taken in hand, and an operation in hand is put back.
use Rattle.std.proofs.Common.{◌≡◌, ℕ, suc, ◌+◌, ◌-◌, ◌<◌, List, ◌∷◌, refl, sym, ap, ◌∙◌, subst, arith}
use Rattle.syntax.specs.declared.node.Node.{Node}
use Rattle.store.specs.Lists.{Lists}
use Rattle.values.specs.declared.Value.{Value}
use Rattle.reckoning.specs.Work.{Work, done}
use Rattle.reckoning.specs.Contexts.{plugged}
use Rattle.machine.specs.declared.operation.Operation.{Operation}
use Rattle.machine.specs.declared.operation.Operation.TheVariants.{Argument, Applied, Bound, SumRight, SumLeft}
use Rattle.machine.specs.declared.operation.Operation.TheVariants.{CompareRight, CompareLeft, Condition}
use Rattle.machine.specs.declared.operations.Operations.{Operations}
use Rattle.machine.specs.Opens.{OpenFor, IsReady, Stacked, weight, op_at, Topped}
use Rattle.machine.specs.Standing.{HasFound, Readied, InHand}
use Rattle.machine.proofs.Stacking.{top_of, stacked_more}
use Rattle.machine.specs.Places.{Rule}

pub ready_weight : (ns : List Node) (op : Operation) → IsReady op → weight ns op ≡ 0
ready_weight ns (Argument n p h) r = absurd r
ready_weight ns (Applied n v) r = refl
ready_weight ns (Bound n p h) r = refl
ready_weight ns (SumRight n p h) r = absurd r
ready_weight ns (SumLeft n v) r = refl
ready_weight ns (CompareRight n p h) r = absurd r
ready_weight ns (CompareLeft n v) r = refl
ready_weight ns (Condition n p q h) r = refl

module _ (rule : Rule) (lists : Lists Value) where
  pub taken : (table : Operations) (x : Value) (w : Work) (op : Operation) (d : ℕ) → 0 < table.depth
      → d + 1 ≡ table.depth →
      op_at table.ops (table.depth - 1) ≡ op → HasFound rule lists table x w → InHand rule lists table.ops d op x w
  taken table x w op d some_open deep is f =
      let t = top_of rule lists table.ops table.depth f.opens some_open f.stacked in
      let e : table.depth - 1 ≡ d = omega arith in
      record {
        first = t.first;
        rest = t.rest;
        value = f.value;
        open_for = subst (λ y. OpenFor rule lists y t.first) is t.open_for;
        stacked = subst (λ i. Stacked rule lists table.ops i t.rest) e t.stacked;
        stands = f.stands;
        whole = ap (λ os. plugged os (done f.value)) (sym t.is) ∙ f.whole;
      }

  -- the same, from a table that it was taken out of
  pub popped : (table table' : Operations) (x : Value) (w : Work) (op : Operation) → 0 < table.depth
      → table'.ops ≡ table.ops → table'.depth + 1 ≡ table.depth →
      op_at table.ops (table.depth - 1) ≡ op → HasFound rule lists table x w
      → InHand rule lists table'.ops table'.depth op x w
  popped table table' x w op some_open same deep is f =
      subst (λ y. InHand rule lists y table'.depth op x w) (sym same) (taken table x w op table'.depth some_open deep
      is f)

  pub put_back : (ops : List Operation) (d : ℕ) (table' : Operations) (op : Operation) (x : Value) (w : Work)
      → IsReady op → Topped ops table'.ops d op → table'.depth ≡ d + 1 →
      InHand rule lists ops d op x w → Readied rule lists table' x w
  put_back ops d table' op x w ready topped deep f =
      let n : table'.depth ≡ suc d = omega arith in
      let last : d ≡ table'.depth - 1 = omega arith in
      record {
        some_open = omega arith;
        ready = subst (λ i. IsReady (op_at table'.ops i)) last (subst IsReady (sym topped.top) ready);
        found = record {
          opens = f.first ∷ f.rest;
          value = f.value;
          stacked = stacked_more rule lists ops table'.ops d table'.depth op f.first f.rest topped n f.open_for
              f.stacked;
          stands = f.stands;
          whole = f.whole;
        };
      }
