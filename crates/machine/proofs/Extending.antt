-- A list is extended, and a body is entered.
use Rattle.std.proofs.Common.{◌≡◌, ℕ, suc, ◌+◌, ◌<◌, ◌≤◌, ◌⊎◌, inl, inr, List, ◌∷◌, length, Some, Ok, Err, Result}
use Rattle.std.proofs.Common.{refl, sym, ap, ◌∙◌, subst, arith}
use Rattle.std.proofs.lemmas.Bool.{cases_lt}
use Rattle.syntax.specs.declared.node.Node.{Node}
use Rattle.syntax.specs.declared.node.Node.TheVariants as node
use Rattle.store.specs.declared.fault.StoreFault.{StoreFault}
use Rattle.store.specs.Lists.{Lists, Made, Extended}
use Rattle.values.specs.declared.Value.{Value}
use Rattle.values.specs.declared.Value.TheVariants.{Function}
use Rattle.record.specs.Nodes.{node_at}
use Rattle.calculus.specs.Term.{Term}
use Rattle.reckoning.specs.Environments.{Env, ◌before◌, size}
use Rattle.reckoning.specs.Environments as plain
use Rattle.reckoning.specs.Work.{Work, met}
use Rattle.reckoning.specs.Moves.{rests, stuck, makes, move}
use Rattle.reckoning.specs.Contexts.{applied, bound, plugged}
use Rattle.machine.specs.declared.operation.Operation.{Operation}
use Rattle.machine.specs.declared.operation.Operation.TheVariants.{Applied, Bound}
use Rattle.machine.specs.declared.operations.Operations.{Operations}
use Rattle.machine.specs.declared.reduce.Reduced.{Reduced}
use Rattle.machine.specs.declared.reduce.Reduced.TheVariants as reduced
use Rattle.machine.specs.Places.{Rule, At, BodyOf}
use Rattle.machine.specs.Handles.{StandsFor, AllStandFor, IsListOf}
use Rattle.machine.specs.Standing.{InHand}
use Rattle.machine.specs.Reducing.{room_of, Moved, Reduces, Extends}
use Rattle.machine.proofs.Keeping.{others_kept, all_length, value_kept, all_kept, stacked_kept}
use Rattle.machine.proofs.Reductions.{NotFunction, moved, applied_stuck}

ok_inj : {X Y : Type 0} {x y : X} → ◌≡◌ {A = Result X Y} (Ok x) (Ok y) → x ≡ y
ok_inj e = cc

ok_not_err : {A : Type 0} {X Y : Type 0} {x : X} {y : Y} → ◌≡◌ {A = Result X Y} (Ok x) (Err y) → A
ok_not_err e = let z : ◌≡◌ {A = ℕ} 0 1 = cc in absurd (omega arith)

pub made_where_ok : (old new : Lists Value) (free free' : ℕ) (cost : ℕ → ℕ) (h : ℕ) (x : Value) (k : ℕ)
    → Extended old new free free' cost h x (Ok k) →
    (l : List Value) → old h ≡ Some l → Made old new free free' cost l x k
made_where_ok old new free free' cost h x k all l e = either (cases_lt free (cost (length l)))
  where
    either : (free < cost (length l)) ⊎ (cost (length l) ≤ free) → Made old new free free' cost l x k
    either (inl less) = ok_not_err {X = ℕ} {Y = StoreFault} (all.short l e less)
    either (inr enough) = let m = all.made l e enough in subst (λ y. Made old new free free' cost l x y)
        (sym (ok_inj {X = ℕ} {Y = StoreFault} m.1)) m.2

not_makes : (n : ℕ) (env : Env) (w : Work) → ¬ (makes n env w ≡ rests)
not_makes n env w e = let z : ◌≡◌ {A = ℕ} 0 1 = cc in omega arith

not_stuck : ¬ (stuck ≡ rests)
not_stuck e = let z : ◌≡◌ {A = ℕ} 0 1 = cc in omega arith

-- what a function value stands for
module _ (rule : Rule) (lists : Lists Value) where
  pub record IsFunction (m h : ℕ) (v : plain.Value) : Type 0 where
    pub body : Term
    pub env : Env
    pub is : v ≡ plain.function m body env
    pub body_of : BodyOf rule (size env) m body
    pub environment : IsListOf rule lists h env

  pub is_function : (m h : ℕ) (v : plain.Value) → StandsFor rule lists (Function m h) v → IsFunction m h v
  is_function m h (plain.number k) s = absurd s
  is_function m h (plain.truth b) s = absurd s
  is_function m h (plain.function n b env) s =
      record { body = b; env = env; is = ap (λ i. plain.function i b env) (sym s.0); body_of = s.1; environment = s.2 }

-- what a reduction that makes an environment finds
module _ (rule : Rule) (lists : Lists Value) (ops : List Operation) (d : ℕ) where
  pub bound_known : (n p h : ℕ) (x : Value) (w : Work) → InHand rule lists ops d (Bound n p h) x w → (l : List Value)
      × (lists h ≡ Some l)
  bound_known n p h x w t = let o = t.open_for in (o.4.0, o.4.1)

  pub no_function : (n : ℕ) (a x : Value) (w : Work) → NotFunction x → InHand rule lists ops d (Applied n a) x w
      → move w ≡ stuck
  no_function n a x w not t =
      let o = t.open_for in
      moved rule lists ops d (Applied n a) x w t (applied n o.0) t.value stuck o.1 refl
      (applied_stuck rule lists n o.0 x t.value not t.stands) not_stuck

  pub function_there : (n m h : ℕ) (a : Value) (w : Work) → InHand rule lists ops d (Applied n a) (Function m h) w
      → (p : ℕ) × (m < length rule.nodes) × (node_at rule.nodes m ≡ node.Function p)
  function_there n m h a w t =
      let f = is_function rule lists m h t.value t.stands in
      (f.body_of.place, f.body_of.inside, f.body_of.node)

  pub function_known : (n m h : ℕ) (a : Value) (w : Work) → InHand rule lists ops d (Applied n a) (Function m h) w
      → (l : List Value) × (lists h ≡ Some l)
  function_known n m h a w t =
      let f = is_function rule lists m h t.value t.stands in
      (f.environment.0, f.environment.1)

-- what it leads to
module _ (rule : Rule) (lists lists' : Lists Value) (whole : ℕ) (cost : ℕ → ℕ) (free free' : ℕ) (table : Operations)
  where
    entered : (op : Operation) (x : Value) (w : Work) (t : InHand rule lists table.ops table.depth op x w)
        (l : List Value) (y : Value) (v : plain.Value) (env : Env) (b : Term) (n place : ℕ) →
        AllStandFor rule lists l env → StandsFor rule lists y v → At rule (suc (size env)) place b →
        move w ≡ makes n (v before env) (plugged t.rest (met b (v before env))) →
        (result : Reduced) → Extends lists lists' free free' cost l y n place result
        → Reduces rule (room_of whole cost) lists lists' free free' table result w
    entered op x w t l y v env b n place all stands at e (reduced.Found z) s = absurd s
    entered op x w t l y v env b n place all stands at e (reduced.Range m out) s = absurd s
    entered op x w t l y v env b n place all stands at e (reduced.NoStore m) s =
        let dear : free < cost (size env) = subst (λ i. free < cost i) (all_length rule lists l env all) s.1 in (
          v before env,
          plugged t.rest (met b (v before env)),
          e
              ∙ ap (λ i. makes i (v before env) (plugged t.rest (met b (v before env)))) (sym s.0),
          dear,
          s.2,
          s.3,
        )
    entered op x w t l y v env b n place all stands at e (reduced.Body p k) s =
        let made = s.1 in
        let kept = others_kept lists lists' k made.fresh made.others in
        let rest = t.rest in
        let u = plugged rest (met b (v before env)) in
        let known : IsListOf rule lists' k (v before env) = (
          y ∷ l,
          made.known,
          (value_kept rule lists lists' kept y v stands, all_kept rule lists lists' kept l env all),
        ) in
        let paid : free' + cost (size env) ≡ free = subst (λ i. free' + cost i ≡ free) (all_length rule lists l env all)
        made.paid in
        let at_p : At rule (suc (size env)) p b = subst (λ i. At rule (suc (size env)) i b) (sym s.0) at in (
          u,
          subst (λ m. Moved rule (room_of whole cost) lists lists' free free' m u) (sym e) (
            refl,
            record { handle = k; fresh = made.fresh; known = known; others = made.others; paid = paid },
          ),
          record {
            opens = rest;
            term = b;
            env = v before env;
            stacked = stacked_kept rule lists lists' kept table.ops table.depth rest t.stacked;
            at = at_p;
            environment = known;
            whole = refl;
          },
        )

    pub binds : (n p h : ℕ) (x : Value) (w : Work) (t : InHand rule lists table.ops table.depth (Bound n p h) x w)
        (result : Reduced) →
        ((l : List Value) → lists h ≡ Some l → Extends lists lists' free free' cost l x n p result)
        → Reduces rule (room_of whole cost) lists lists' free free' table result w
    binds n p h x w t result s =
        let o = t.open_for in
        entered (Bound n p h) x w t o.4.0 x t.value o.1 o.0 n p o.4.2 t.stands o.3
        (moved rule lists table.ops table.depth (Bound n p h) x w t (bound n o.0 o.1) t.value
        (makes n (t.value before o.1) (met o.0 (t.value before o.1))) o.2 refl refl (not_makes _ _ _))
        result (s o.4.0 o.4.1)

    pub applies : (n m h p : ℕ) (a : Value) (w : Work) (t : InHand rule lists table.ops table.depth (Applied n a)
        (Function m h) w) → node.Function p ≡ node_at rule.nodes m → (result : Reduced) →
        ((l : List Value) → lists h ≡ Some l → Extends lists lists' free free' cost l a n p result)
        → Reduces rule (room_of whole cost) lists lists' free free' table result w
    applies n m h p a w t e result s =
        let o = t.open_for in
        let f = is_function rule lists m h t.value t.stands in
        let same : f.body_of.place ≡ p = function_place (sym f.body_of.node ∙ sym e) in
        entered (Applied n a) (Function m h) w t f.environment.0 a o.0 f.env f.body n p f.environment.2 o.2
        (subst (λ i. At rule (suc (size f.env)) i f.body) same f.body_of.body)
        (moved rule lists table.ops table.depth (Applied n a) (Function m h) w t (applied n o.0)
        (plain.function m f.body f.env) (makes n (o.0 before f.env) (met f.body (o.0 before f.env))) o.1 f.is refl
        (not_makes _ _ _))
        result (s f.environment.0 f.environment.1)
      where
        function_place : {i j : ℕ} → ◌≡◌ {A = Node} (node.Function i) (node.Function j) → i ≡ j
        function_place q = cc
