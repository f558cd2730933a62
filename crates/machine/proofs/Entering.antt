-- A node is entered.
use Rattle.std.proofs.Common.{◌≡◌, ◌≢◌, ℕ, zero, suc, ◌+◌, ◌<◌, ◌≤◌, List, [], ◌∷◌, length, Some, get_or, refl, sym}
use Rattle.std.proofs.Common.{ap, ◌∙◌, arith}
use Rattle.std.proofs.Math.Option.{none, some}
use Rattle.syntax.specs.Tree.{nodes}
use Rattle.syntax.specs.declared.node.Node.{Node}
use Rattle.syntax.specs.declared.node.Node.TheVariants as node
use Rattle.store.specs.Lists.{Lists}
use Rattle.values.specs.declared.Value.{Value}
use Rattle.record.specs.Nodes.{node_at}
use Rattle.calculus.specs.Term.{Term}
use Rattle.reckoning.specs.Environments.{Env, empty, ◌before◌, look, size}
use Rattle.reckoning.specs.Environments as plain
use Rattle.reckoning.specs.Work.{Work, done, unbound, met}
use Rattle.reckoning.specs.Moves.{stuck, move}
use Rattle.reckoning.specs.Open.{open_nodes, nth, one_too_many}
use Rattle.reckoning.specs.Contexts.{Open, argument, applied, bound, sum_right, sum_left, compare_right, compare_left}
use Rattle.reckoning.specs.Contexts.{condition, inside, plugged, nodes_before}
use Rattle.reckoning.proofs.Contexts.{moves_inside}
use Rattle.machine.specs.declared.operation.Operation.{Operation}
use Rattle.machine.specs.declared.operation.Operation.TheVariants.{Argument, Applied, Bound, SumRight, SumLeft}
use Rattle.machine.specs.declared.operation.Operation.TheVariants.{CompareRight, CompareLeft, Condition}
use Rattle.machine.specs.declared.operations.Operations.{Operations}
use Rattle.machine.specs.Places.{Rule, At}
use Rattle.machine.specs.Handles.{StandsFor, AllStandFor, IsListOf}
use Rattle.machine.specs.Opens.{IsOperation, OpenFor, Waits, span, Topped}
use Rattle.machine.specs.Leaves.{AtOnce, GoesOn}
use Rattle.machine.specs.Standing.{Meets, HasFound, InHand, Opening}
use Rattle.machine.proofs.Placing.{shape}
use Rattle.machine.proofs.Stacking.{stacked_more, stacked_length}

module _ (rule : Rule) (lists : Lists Value) where
  -- a variable: its value is that of the list at its distance
  pub listed : (l : List Value) (env : Env) (d : ℕ) (x : Value) → AllStandFor rule lists l env → d < length l →
      (v : plain.Value) × (look env d ≡ some v) × StandsFor rule lists (get_or l d x) v
  listed [] empty d x a h = absurd (omega arith)
  listed [] (v before env) d x a h = absurd a
  listed (y ∷ l) empty d x a h = absurd a
  listed (y ∷ l) (v before env) zero x a h = (v, refl, a.0)
  listed (y ∷ l) (v before env) (suc d) x a h = listed l env d x a.1 (omega arith)

  pub unlisted : (l : List Value) (env : Env) (d : ℕ) → AllStandFor rule lists l env → length l ≤ d → look env d ≡ none
  unlisted [] empty d a h = refl
  unlisted [] (v before env) d a h = absurd a
  unlisted (y ∷ l) empty d a h = absurd a
  unlisted (y ∷ l) (v before env) zero a h = absurd (omega arith)
  unlisted (y ∷ l) (v before env) (suc d) a h = unlisted l env d a.1 (omega arith)

  -- a variable with no value: nothing fits
  pub stuck_inside : (os : List Open) (d : ℕ) → move (plugged os (unbound d)) ≡ stuck
  stuck_inside os d = moves_inside.same_move os (unbound d) (λ e. let z : ◌≡◌ {A = ℕ} 0 1 = cc in omega arith)

  -- a value found at once
  pub found : (table : Operations) (p h : ℕ) (w : Work) (x : Value) (m : Meets rule lists table p h w)
      → AtOnce rule lists m.term m.env (Some x) →
      HasFound rule lists table x w
  found table p h w x m v =
      record {
        opens = m.opens;
        value = v.0;
        stacked = m.stacked;
        stands = v.2;
        whole = ap (λ y. plugged m.opens y)
            (sym v.1) ∙ m.whole;
      }

  -- an operation in hand whose operand is next
  module _ (ops : List Operation) (d : ℕ) (op : Operation) (p h : ℕ) (w : Work)
      (o : Opening rule lists ops d op p h w) where
    pub hand : (x : Value) → AtOnce rule lists o.term o.env (Some x) → InHand rule lists ops d op x w
    hand x v =
        record {
          first = o.first;
          rest = o.rest;
          value = v.0;
          open_for = o.open_for;
          stacked = o.stacked;
          stands = v.2;
          whole = ap (λ y. plugged o.rest (inside o.first y)) (sym v.1) ∙ o.whole;
        }

    pub opened : (table' : Operations) → Topped ops table'.ops d op → table'.depth ≡ d + 1
        → Meets rule lists table' p h w
    opened table' topped deep =
        let n : table'.depth ≡ suc d = omega arith in
        record {
          opens = o.first ∷ o.rest;
          term = o.term;
          env = o.env;
          stacked = stacked_more rule lists ops table'.ops d table'.depth op o.first o.rest topped n o.open_for
              o.stacked;
          at = o.at;
          environment = o.environment;
          whole = o.whole;
        }

    pub opening_goes_on : (move w ≢ stuck) → GoesOn rule lists p h
    opening_goes_on not =
        record {
          opens = o.first ∷ o.rest;
          term = o.term;
          env = o.env;
          at = o.at;
          environment = o.environment;
          goes_on = λ s. not (ap (λ y. move y) (sym o.whole) ∙ s);
        }

  -- the operation at a place where an operation is met, in hand

  module _ (table : Operations) (p h : ℕ) (w : Work) (m : Meets rule lists table p h w) where
    takes : (q : ℕ) (op : Operation) (o : Open) (t : Term) → At rule (size m.env) q t → OpenFor rule lists op o
        → met m.term m.env ≡ inside o (met t m.env) →
        Opening rule lists table.ops table.depth op q h w
    takes q op o t a s e =
        record {
          first = o;
          rest = m.opens;
          term = t;
          env = m.env;
          open_for = s;
          stacked = m.stacked;
          at = a;
          environment = m.environment;
          whole = ap (λ y. plugged m.opens y) (sym e) ∙ m.whole;
        }

    pub takes_application : (l r : ℕ) → node.Application l r ≡ node_at rule.nodes p
        → Opening rule lists table.ops table.depth (Argument p l h) r h w
    takes_application l r e =
        let s = shape rule _ p m.term (node.Application l r) m.at e in
        let b = s.3 in
        let sized : span (node_at rule.nodes p) ≡ nodes b.left.tree = ap span (sym e) ∙ b.sized in
        takes r (Argument p l h) (argument p s.0 m.env) s.1 b.right
        (s.0, m.env, refl, record { at = b.left; environment = m.environment; sized = sized })
        (ap (λ t. met t m.env) s.2)

    pub takes_sum : (l r : ℕ) → node.Sum l r ≡ node_at rule.nodes p → Opening rule lists table.ops table.depth
        (SumRight p l h) r h w
    takes_sum l r e =
        let s = shape rule _ p m.term (node.Sum l r) m.at e in
        let b = s.3 in
        let sized : span (node_at rule.nodes p) ≡ nodes b.left.tree = ap span (sym e) ∙ b.sized in
        takes r (SumRight p l h) (sum_right p s.0 m.env) s.1 b.right
        (s.0, m.env, refl, record { at = b.left; environment = m.environment; sized = sized })
        (ap (λ t. met t m.env) s.2)

    pub takes_at_most : (l r : ℕ) → node.AtMost l r ≡ node_at rule.nodes p → Opening rule lists table.ops table.depth
        (CompareRight p l h) r h w
    takes_at_most l r e =
        let s = shape rule _ p m.term (node.AtMost l r) m.at e in
        let b = s.3 in
        let sized : span (node_at rule.nodes p) ≡ nodes b.left.tree = ap span (sym e) ∙ b.sized in
        takes r (CompareRight p l h) (compare_right p s.0 m.env) s.1 b.right
        (s.0, m.env, refl, record { at = b.left; environment = m.environment; sized = sized })
        (ap (λ t. met t m.env) s.2)

    pub takes_let : (l r : ℕ) → node.LetIn l r ≡ node_at rule.nodes p → Opening rule lists table.ops table.depth
        (Bound p r h) l h w
    takes_let l r e =
        let s = shape rule _ p m.term (node.LetIn l r) m.at e in
        takes l (Bound p r h) (bound p s.1 m.env) s.0 s.3.first (s.1, m.env, refl, s.3.rest, m.environment)
        (ap (λ t. met t m.env) s.2)

    pub takes_if : (c t u : ℕ) → node.IfElse c t u ≡ node_at rule.nodes p → Opening rule lists table.ops table.depth
        (Condition p t u h) c h w
    takes_if c t u e =
        let s = shape rule _ p m.term (node.IfElse c t u) m.at e in
        takes c (Condition p t u h) (condition p s.1 s.2 m.env) s.0 s.4.first (
          s.1,
          s.2,
          m.env,
          refl,
          s.4.yes_then,
          s.4.no_then,
          m.environment,
        ) (ap (λ x. met x m.env) s.3)

  -- an operation in hand gives way to its left operand

  module _ (ops : List Operation) (d : ℕ) (x : Value) (w : Work) where
    gives : (op op' : Operation) (f : InHand rule lists ops d op x w) (o' : Open) (n p h : ℕ) (t : Term) (env : Env)
        → Waits rule lists p h (span (node_at rule.nodes n)) t env →
        OpenFor rule lists op' o' → inside f.first (done f.value) ≡ inside o' (met t env)
        → Opening rule lists ops d op' p h w
    gives op op' f o' n p h t env waits s e =
        record {
          first = o';
          rest = f.rest;
          term = t;
          env = env;
          open_for = s;
          stacked = f.stacked;
          at = waits.at;
          environment = waits.environment;
          whole = ap (λ y. plugged f.rest y) (sym e) ∙ f.whole;
        }

    pub gives_argument : (n p h : ℕ) → InHand rule lists ops d (Argument n p h) x w
        → Opening rule lists ops d (Applied n x) p h w
    gives_argument n p h f =
        let b = f.open_for in
        gives (Argument n p h) (Applied n x) f (applied n f.value) n p h b.0 b.1 b.3 (f.value, refl, f.stands)
        (ap (λ o. inside o (done f.value)) b.2)

    pub gives_sum : (n p h : ℕ) → InHand rule lists ops d (SumRight n p h) x w
        → Opening rule lists ops d (SumLeft n x) p h w
    gives_sum n p h f =
        let b = f.open_for in
        gives (SumRight n p h) (SumLeft n x) f (sum_left n f.value) n p h b.0 b.1 b.3 (f.value, refl, f.stands)
        (ap (λ o. inside o (done f.value)) b.2)

    pub gives_compare : (n p h : ℕ) → InHand rule lists ops d (CompareRight n p h) x w
        → Opening rule lists ops d (CompareLeft n x) p h w
    gives_compare n p h f =
        let b = f.open_for in
        gives (CompareRight n p h) (CompareLeft n x) f (compare_left n f.value) n p h b.0 b.1 b.3 (
          f.value,
          refl,
          f.stands,
        ) (ap (λ o. inside o (done f.value)) b.2)

  -- the right operand is found at once: the left one is next

  module _ (table : Operations) (p h : ℕ) (w : Work) (m : Meets rule lists table p h w) (l r : ℕ) (x : Value)
      (at_once : (t : Term) (env : Env) → At rule (size env) r t → IsListOf rule lists h env
      → AtOnce rule lists t env (Some x)) where
    pub applied_next : node.Application l r ≡ node_at rule.nodes p → Opening rule lists table.ops table.depth
        (Applied p x) l h w
    applied_next e =
        let o = takes_application table p h w m l r e in
        gives_argument table.ops table.depth x w p l h (hand table.ops table.depth (Argument p l h) r h w o x
        (at_once o.term o.env o.at o.environment))

    pub sum_next : node.Sum l r ≡ node_at rule.nodes p → Opening rule lists table.ops table.depth (SumLeft p x) l h w
    sum_next e =
        let o = takes_sum table p h w m l r e in
        gives_sum table.ops table.depth x w p l h (hand table.ops table.depth (SumRight p l h) r h w o x
        (at_once o.term o.env o.at o.environment))

    pub comparison_next : node.AtMost l r ≡ node_at rule.nodes p → Opening rule lists table.ops table.depth
        (CompareLeft p x) l h w
    comparison_next e =
        let o = takes_at_most table p h w m l r e in
        gives_compare table.ops table.depth x w p l h (hand table.ops table.depth (CompareRight p l h) r h w o x
        (at_once o.term o.env o.at o.environment))

  -- 256 operations are open around an operation: it is the 257th
  module _ (table : Operations) (p h : ℕ) (w : Work) (m : Meets rule lists table p h w) (full : table.depth ≡ 256) where
    one_more : (rest : List ℕ) → open_nodes (met m.term m.env) ≡ p ∷ rest → one_too_many w ≡ some p
    one_more rest e =
        let long : length m.opens ≡ 256 = stacked_length rule lists table.ops table.depth m.opens m.stacked ∙ full in
        let some_open : ¬ (open_nodes (met m.term m.env) ≡ []) = λ f. let g : p ∷ rest ≡ [] = sym e ∙ f in
        let z : ◌≡◌ {A = ℕ} 0 1 = cc in omega arith in
        let nodes_are = moves_inside.same_open m.opens (met m.term m.env) some_open in
        ap (λ y. one_too_many y) (sym m.whole) ∙ ap (λ y. nth 256 y) (nodes_are ∙ ap (λ y. nodes_before m.opens y) e)
        ∙ moves_inside.one_more m.opens p rest long

    pub over : (n : Node) → n ≡ node_at rule.nodes p → IsOperation n → one_too_many w ≡ some p
    over (node.Number k) e o = absurd o
    over (node.Truth b) e o = absurd o
    over (node.Variable d) e o = absurd o
    over (node.Reading j) e o = absurd o
    over (node.Function b) e o = absurd o
    over (node.Application l r) e o = one_more _ (ap (λ t. open_nodes (met t m.env))
        (shape rule _ p m.term (node.Application l r) m.at e).2)
    over (node.LetIn l r) e o = one_more _ (ap (λ t. open_nodes (met t m.env))
        (shape rule _ p m.term (node.LetIn l r) m.at e).2)
    over (node.Sum l r) e o = one_more _ (ap (λ t. open_nodes (met t m.env))
        (shape rule _ p m.term (node.Sum l r) m.at e).2)
    over (node.AtMost l r) e o = one_more _ (ap (λ t. open_nodes (met t m.env))
        (shape rule _ p m.term (node.AtMost l r) m.at e).2)
    over (node.IfElse c t u) e o = one_more _ (ap (λ x. open_nodes (met x m.env))
        (shape rule _ p m.term (node.IfElse c t u) m.at e).3)
