-- The law follows from where runs stand.
use Rattle.std.proofs.Common.{◌≡◌, ◌↔◌, ◌⊎◌, inl, inr, refl, sym, ◌∙◌, ap, subst, arith, ℕ, ◌<◌, ◌≤◌, min, Bool, true}
use Rattle.std.proofs.Common.{false, List, [], ◌∷◌, length, Ok, Err, Result, cond, ◌==◌}
use Rattle.std.proofs.Math.Option.{Option, some, none}
use Rattle.std.proofs.lemmas.List.{length-replicate}
use native.Mathlib.Decide.{ℕ_discrete}
use Rattle.std.proofs.lemmas.Bool.{eqb-true}
use Rattle.syntax.specs.Tree.{Tree}
use Rattle.calculus.specs.Term.{Term}
use Rattle.calculus.specs.Types.{Ty, RuleHas}
use Rattle.calculus.specs.Rules.{Leaves}
use Rattle.calculus.specs.Step.{Next, rests, beyond, stuck, to, step}
use Rattle.calculus.specs.Stages.{start, stage}
use Rattle.calculus.specs.Length.{Answer, Length, over, ends, value_answer, answer, told}
use Rattle.calculus.proofs.Safety.{never_stuck, value_belongs}
use Rattle.calculus.proofs.Ending.{has_length, not_both}
use Rattle.calculus.proofs.Reduction.{determined}
use Rattle.calculus.specs.Values.{is_value}
use Rattle.calculus.proofs.General.{spelling_tells}
use Rattle.reckoning.specs.Room.{Room}
use Rattle.reckoning.specs.Reckoning.{Reckoned, reckoned, state}
use Rattle.reckoning.specs.Reckoning as plain
use Rattle.reckoning.specs.Laws.{Suffices, stage_state, AtStages}
use Rattle.reckoning.proofs.Reckoning.{follows_stages}
use Rattle.arithmetic.specs.declared.OutOfRange.{OutOfRange}
use Rattle.run.specs.Told.{answer_of, state_of, IsShort}
use Rattle.law.specs.Turns.{Since, started, after_call, since}
use Rattle.law.specs.Law.{Play, readings_of, granted_of, first_stage, play_room, HoldsOf, Comparable, TellSame}
use Rattle.law.specs.Law.{AddUpAlike, Law, StandsAtEnd, Follows}
use Rattle.run.specs.Faults.{rewind_answer}
use Rattle.law.specs.Replies.{IsReply, Replied}
use Rattle.run.specs.declared.fault.RunFault.{RunFault}
use Rattle.run.specs.declared.fault.RunFault.TheVariants.{WrongCount}
use Rattle.run.specs.declared.report.Found.{Found}
use Rattle.run.specs.declared.report.Found.TheVariants.{Number, Truth, Function}
use Rattle.run.specs.declared.report.Report.{Report}
use Rattle.run.specs.declared.report.State.{State}
use Rattle.run.specs.declared.report.State.TheVariants.{Waiting, Done, Range, NoStore, NoStack}
use Rattle.law.specs.declared.turn.Call.{Call}
use Rattle.law.specs.declared.turn.Call.TheVariants.{Grant, Ask, Rewind}
use Rattle.law.specs.declared.turn.Reply.{Reply}
use Rattle.law.specs.declared.turn.Reply.TheVariants as reply
use Rattle.law.specs.declared.turn.Turn.{Turn}

-- readings in force are as many as the rule's

after_length : (r : ℕ) (s : Reckoned) (now : Since) (call : Call) (answer : Reply) → length now.readings ≡ r
    → IsReply r s call answer → length (after_call now call answer).readings ≡ r
after_length r s now (Grant n) reply.Done e h = e
after_length r s now (Grant n) (reply.Told report) e h = e
after_length r s now (Grant n) (reply.Refused fault) e h = e
after_length r s now Ask reply.Done e h = e
after_length r s now Ask (reply.Told report) e h = e
after_length r s now Ask (reply.Refused fault) e h = e
after_length r s now (Rewind readings) reply.Done e h = allowed (length readings.now) h
  where
    either : (b : Bool) (n : ℕ) → (n == r) ≡ b → ◌≡◌ {A = Result (Unit {0}) RunFault}
        (cond b (Ok tt) (Err (WrongCount r n))) (Ok tt) → n ≡ r
    either true n e h = eqb-true n r e
    either false n e h = let z : ◌≡◌ {A = ℕ} 0 1 = cc in absurd (omega arith)

    allowed : (n : ℕ) → rewind_answer r n ≡ Ok tt → n ≡ r
    allowed n h = either (n == r) n refl h
after_length r s now (Rewind readings) (reply.Told report) e h = e
after_length r s now (Rewind readings) (reply.Refused fault) e h = e

pub since_length : (room : Room) (r : ℕ) (t : Tree) (now : Since) (turns : List Turn) → length now.readings ≡ r
    → Replied room r t now turns → length (since now turns).readings ≡ r
since_length room r t now [] e h = e
since_length room r t now (turn ∷ turns) e h =
    since_length room r t (after_call now turn.call turn.reply) turns
    (after_length r (reckoned room now.readings t now.granted) now turn.call turn.reply e h.0) h.1

-- what is told

not_short : (told : State) (s : plain.State) → state_of told ≡ s → ¬ IsShort told → Suffices s
not_short Waiting s e h = subst Suffices e tt
not_short (Done f) s e h = subst Suffices e tt
not_short (Range n out) s e h = subst Suffices e tt
not_short (NoStore n) s e h = absurd (h tt)
not_short (NoStack n) s e h = absurd (h tt)

waiting_back : (told : State) → state_of told ≡ plain.waiting → told ≡ Waiting
waiting_back Waiting e = refl
waiting_back (Done f) e = let z : ◌≡◌ {A = ℕ} 0 1 = cc in absurd (omega arith)
waiting_back (Range n out) e = let z : ◌≡◌ {A = ℕ} 0 1 = cc in absurd (omega arith)
waiting_back (NoStore n) e = let z : ◌≡◌ {A = ℕ} 0 1 = cc in absurd (omega arith)
waiting_back (NoStack n) e = let z : ◌≡◌ {A = ℕ} 0 1 = cc in absurd (omega arith)

over_some : (o : Option Answer) (a : Answer) → plain.over a ≡ stage_state o → o ≡ some a
over_some none a e = let z : ◌≡◌ {A = ℕ} 0 1 = cc in absurd (omega arith)
over_some (some b) a e = cc

-- an answer that is a value is told at rest
at_rest : (o : Option Answer) (m : Next) (f : Found) → told o m ≡ some (answer_of f) → (m ≡ rests)
    × (o ≡ some (answer_of f))
at_rest o rests f e = (refl, e)
at_rest o (beyond n) (Number k) e = let z : ◌≡◌ {A = ℕ} 0 1 = cc in absurd (omega arith)
at_rest o (beyond n) (Truth b) e = let z : ◌≡◌ {A = ℕ} 0 1 = cc in absurd (omega arith)
at_rest o (beyond n) (Function m) e = let z : ◌≡◌ {A = ℕ} 0 1 = cc in absurd (omega arith)
at_rest o stuck f e = let z : ◌≡◌ {A = ℕ} 0 1 = cc in absurd (omega arith)
at_rest o (to u) f e = let z : ◌≡◌ {A = ℕ} 0 1 = cc in absurd (omega arith)

none_told : (o : Option Answer) (m : Next) → ends m ≡ false → told o m ≡ none
none_told o rests e = let z : ◌≡◌ {A = ℕ} 0 1 = cc in absurd (omega arith)
none_told o (beyond n) e = let z : ◌≡◌ {A = ℕ} 0 1 = cc in absurd (omega arith)
none_told o stuck e = refl
none_told o (to u) e = refl

-- 3 c

same_length : (p : Play) → StandsAtEnd p → length (readings_of p) ≡ p.r
same_length p end = since_length (play_room p) p.r p.tree (started p.r) p.turns (length-replicate p.r _) end.replies

typed_here : (p : Play) (end : StandsAtEnd p) (τ : Ty) → RuleHas p.r p.tree τ
    → RuleHas (length (readings_of p)) p.tree τ
typed_here p end τ h = subst (λ r. RuleHas r p.tree τ) (sym (same_length p end)) h

at_stages : (p : Play) → StandsAtEnd p → AtStages (first_stage p) (granted_of p)
    (reckoned (play_room p) (readings_of p) p.tree (granted_of p))
at_stages p end = follows_stages (play_room p) p.tree end.typed.0 (readings_of p)
    (typed_here p end end.typed.0 end.typed.1) (granted_of p)

-- the answer of the stage, where a value is told
stage_answer : (p : Play) → StandsAtEnd p → (f : Found) → p.report.state ≡ Done f
    → answer (stage p.report.count (first_stage p)) ≡ some (answer_of f)
stage_answer p end f e =
    let r = reckoned (play_room p) (readings_of p) p.tree (granted_of p) in
    let a = at_stages p end in
    let q : state r ≡ plain.over (answer_of f) = sym end.reckoned.in_state ∙ ap state_of e in
    let enough : Suffices (state r) = subst Suffices (sym q) tt in
    ap (λ n. answer (stage n (first_stage p))) end.reckoned.counted ∙ over_some _ _ (sym q ∙ a.tells enough)

value_told : (p : Play) → StandsAtEnd p → (f : Found) → p.report.state ≡ Done f →
    (step (stage p.report.count (first_stage p)) ≡ rests)
    × (value_answer (stage p.report.count (first_stage p)) ≡ some (answer_of f))
value_told p end f e =
    let u = stage p.report.count (first_stage p) in
    at_rest (value_answer u) (step u) f (stage_answer p end f e)

no_range : (u : Term) (n : ℕ) → ¬ (value_answer u ≡ some (Answer.range n))
no_range (Term.number k) n e = let z : ◌≡◌ {A = ℕ} 0 1 = cc in omega arith
no_range (Term.truth b) n e = let z : ◌≡◌ {A = ℕ} 0 1 = cc in omega arith
no_range (Term.variable d) n e = let z : ◌≡◌ {A = ℕ} 0 1 = cc in omega arith
no_range (Term.function m b) n e = let z : ◌≡◌ {A = ℕ} 0 1 = cc in omega arith
no_range (Term.application m f a) n e = let z : ◌≡◌ {A = ℕ} 0 1 = cc in omega arith
no_range (Term.let_in m x b) n e = let z : ◌≡◌ {A = ℕ} 0 1 = cc in omega arith
no_range (Term.sum m x y) n e = let z : ◌≡◌ {A = ℕ} 0 1 = cc in omega arith
no_range (Term.at_most m x y) n e = let z : ◌≡◌ {A = ℕ} 0 1 = cc in omega arith
no_range (Term.if_else m x y w) n e = let z : ◌≡◌ {A = ℕ} 0 1 = cc in omega arith

next_beyond : (u : Term) (m : Next) (n : ℕ) → told (value_answer u) m ≡ some (Answer.range n) → m ≡ beyond n
next_beyond u rests n e = absurd (no_range u n e)
next_beyond u (beyond k) n e = cc
next_beyond u stuck n e = let z : ◌≡◌ {A = ℕ} 0 1 = cc in absurd (omega arith)
next_beyond u (to v) n e = let z : ◌≡◌ {A = ℕ} 0 1 = cc in absurd (omega arith)

range_told : (p : Play) → StandsAtEnd p → (n : ℕ) (out : OutOfRange) → p.report.state ≡ Range n out
    → Leaves (stage p.report.count (first_stage p)) n
range_told p end n out e =
    let r = reckoned (play_room p) (readings_of p) p.tree (granted_of p) in
    let u = stage p.report.count (first_stage p) in
    let q : state r ≡ plain.over (Answer.range n) = sym end.reckoned.in_state ∙ ap state_of e in
    let enough : Suffices (state r) = subst Suffices (sym q) tt in
    let told_here : answer u ≡ some (Answer.range n) =
    ap (λ k. answer (stage k (first_stage p))) end.reckoned.counted
    ∙ over_some _ _ (sym q ∙ (at_stages p end).tells enough) in
    (determined.leaves u n).1 (next_beyond u (step u) n told_here)

waits_below : (p : Play) → StandsAtEnd p → ¬ IsShort p.report.state → (n : ℕ) → Length (first_stage p) n
    → (p.report.state ≡ Waiting) ↔ (p.report.count < n)
waits_below p end room n l =
    let r = reckoned (play_room p) (readings_of p) p.tree (granted_of p) in
    let a = at_stages p end in
    let T = first_stage p in
    let c = end.reckoned.counted in
    let enough : Suffices (state r) = not_short p.report.state (state r) end.reckoned.in_state room in
    let tells = a.tells enough in (
      (λ e.
          let none_here : answer (stage r.count T) ≡ none = waiting_none _ (sym (sym end.reckoned.in_state
          ∙ ap state_of e) ∙ tells) in
          let below = a.never_past.1 n l in
          let other : ¬ (r.count ≡ n) = λ same. over_not_none (stage r.count T) (subst (λ k. over (stage k T) ≡ true)
          (sym same) l.last) none_here in
          subst (λ k. k < n) (sym c) (strictly r.count n below other)),
      (λ h.
          let here : over (stage r.count T) ≡ false = l.earlier r.count (subst (λ k. k < n) c h) in
          waiting_back p.report.state (end.reckoned.in_state ∙ tells
          ∙ ap stage_state (none_told (value_answer (stage r.count T)) (step (stage r.count T)) here))),
    )
  where
    waiting_none : (o : Option Answer) → plain.waiting ≡ stage_state o → o ≡ none
    waiting_none none e = refl
    waiting_none (some x) e = let z : ◌≡◌ {A = ℕ} 0 1 = cc in absurd (omega arith)

    strictly : (m n : ℕ) → m ≤ n → ¬ (m ≡ n) → m < n
    strictly m n h k = omega (arith, h, k)

    over_not_none : (u : Term) → over u ≡ true → ¬ (answer u ≡ none)
    over_not_none u e h = by_next (step u) refl e h
      where
        value_some : (v : Term) → is_value v ≡ true → ¬ (value_answer v ≡ none)
        value_some (Term.number k) e h = let z : ◌≡◌ {A = ℕ} 0 1 = cc in omega arith
        value_some (Term.truth b) e h = let z : ◌≡◌ {A = ℕ} 0 1 = cc in omega arith
        value_some (Term.variable d) e h = not_both false e refl
        value_some (Term.function m b) e h = let z : ◌≡◌ {A = ℕ} 0 1 = cc in omega arith
        value_some (Term.application m f a) e h = not_both false e refl
        value_some (Term.let_in m x b) e h = not_both false e refl
        value_some (Term.sum m x y) e h = not_both false e refl
        value_some (Term.at_most m x y) e h = not_both false e refl
        value_some (Term.if_else m x y w) e h = not_both false e refl

        by_next : (m : Next) → step u ≡ m → ends (step u) ≡ true → ¬ (told (value_answer u) (step u) ≡ none)
        by_next rests f e h = value_some u ((determined.at_rest u).1 f) (sym (ap (told (value_answer u)) f) ∙ h)
        by_next (beyond m) f e h = let i : some (Answer.range m) ≡ none = sym (ap (told (value_answer u)) f) ∙ h in
            let z : ◌≡◌ {A = ℕ} 0 1 = cc in omega arith
        by_next stuck f e h = not_both (ends (step u)) e (ap ends f)
        by_next (to w) f e h = not_both (ends (step u)) e (ap ends f)

pub held : (p : Play) → StandsAtEnd p → HoldsOf p
held p end =
    let a = at_stages p end in
    let r = reckoned (play_room p) (readings_of p) p.tree (granted_of p) in
    record {
      typed = end.typed;
      replies = end.replies;
      length = λ readings e. has_length.some_length p.tree end.typed.0 readings
          (subst (λ n. RuleHas n p.tree end.typed.0) (sym e) end.typed.1);
      not_stuck = never_stuck p.tree end.typed.0 (readings_of p) (typed_here p end end.typed.0 end.typed.1)
          p.report.count;
      value = λ f e. (value_told p end f e).1;
      belongs = λ f e τ h. value_belongs p.tree τ (readings_of p) (typed_here p end τ h) p.report.count
          (value_told p end f e).0;
      range = range_told p end;
      reckoned = end.reckoned;
      counts = λ room n l. end.reckoned.counted
          ∙ a.counts (not_short p.report.state (state r) end.reckoned.in_state room) n l ∙ min_other (granted_of p) n;
      waits = waits_below p end;
    }
  where
    min_other : (m n : ℕ) → min m n ≡ min n m
    min_other m n = omega arith

-- 3 b

state_injective : (x y : State) → state_of x ≡ state_of y → x ≡ y
state_injective x y e = sym (there x) ∙ ap back e ∙ there y
  where
    back : plain.State → State
    back plain.waiting = Waiting
    back (plain.over (Answer.number k)) = Done (Number k)
    back (plain.over (Answer.truth b)) = Done (Truth b)
    back (plain.over (Answer.function n)) = Done (Function n)
    back (plain.over (Answer.range n)) = Range n (record {})
    back (plain.no_store n) = NoStore n
    back (plain.no_stack n) = NoStack n

    there : (x : State) → back (state_of x) ≡ x
    there Waiting = refl
    there (Done (Number k)) = refl
    there (Done (Truth b)) = refl
    there (Done (Function n)) = refl
    there (Range n out) = refl
    there (NoStore n) = refl
    there (NoStack n) = refl

-- as long as room suffices, what is told is told by the stage of the count
told_by_stage : (p : Play) → StandsAtEnd p → ¬ IsShort p.report.state → state_of p.report.state ≡ stage_state
    (answer (stage p.report.count (first_stage p)))
told_by_stage p end room =
    let r = reckoned (play_room p) (readings_of p) p.tree (granted_of p) in
    end.reckoned.in_state ∙ (at_stages p end).tells (not_short p.report.state (state r) end.reckoned.in_state room) ∙
    ap (λ n. stage_state (answer (stage n (first_stage p)))) (sym end.reckoned.counted)

same_report : (x y : Report) → x.count ≡ y.count → x.state ≡ y.state → x ≡ y
same_report x y e f =
    let one : ◌≡◌ {A = Report} (record { count = x.count; state = x.state })
    (record { count = y.count; state = x.state }) =
    ap (λ k. let z : Report = record { count = k; state = x.state } in z) e in
    let two : ◌≡◌ {A = Report} (record { count = y.count; state = x.state })
    (record { count = y.count; state = y.state }) =
    ap (λ k. let z : Report = record { count = y.count; state = k } in z) f in
    one ∙ two

alike : (n g h : ℕ) → min n g ≡ min n h → (g ≡ h) ⊎ ((n ≤ g) × (n ≤ h))
alike n g h e = either (ℕ_discrete g h)
  where
    either : Dec (g ≡ h) → (g ≡ h) ⊎ ((n ≤ g) × (n ≤ h))
    either (yes f) = inl f
    either (no f) = inr (omega (arith, e, f), omega (arith, e, f))

compared : (p q : Play) → StandsAtEnd p → StandsAtEnd q → Comparable p q → TellSame p q ↔ AddUpAlike p q
compared p q end fin c =
    let hp = held p end in
    let hq = held q fin in
    let known = hp.length (readings_of p) (same_length p end) in
    let n = known.0 in
    let same : first_stage p ≡ first_stage q = ap (λ rs. start rs p.tree) c.same_readings
    ∙ ap (λ t. start (readings_of q) t) c.same_tree in
    let lq : Length (first_stage q) n = subst (λ T. Length T n) same known.1 in
    let cp = hp.counts c.first_has_room n known.1 in
    let cq = hq.counts c.second_has_room n lq in (
      (λ e. reached n known.1 (alike n (granted_of p) (granted_of q) (sym cp ∙ ap (λ x. x.count) e ∙ cq))),
      (λ e.
          let counts = equal_counts known.0 known.1 cp cq e in
          let states = state_injective _ _ (told_by_stage p end c.first_has_room
          ∙ ap (λ T. stage_state (answer (stage p.report.count T))) same
          ∙ ap (λ k. stage_state (answer (stage k (first_stage q)))) counts
          ∙ sym (told_by_stage q fin c.second_has_room)) in
          same_report p.report q.report counts states),
    )
  where
    reached : (n : ℕ) → Length (first_stage p) n → (granted_of p ≡ granted_of q)
        ⊎ ((n ≤ granted_of p) × (n ≤ granted_of q)) → AddUpAlike p q
    reached n l (inl e) = inl e
    reached n l (inr h) = inr (n, l, h.0, h.1)

    equal_counts : (n : ℕ) → Length (first_stage p) n → p.report.count ≡ min n (granted_of p)
        → q.report.count ≡ min n (granted_of q) → AddUpAlike p q → p.report.count ≡ q.report.count
    equal_counts n l cp cq (inl e) = cp ∙ ap (λ g. min n g) e ∙ sym cq
    equal_counts n l cp cq (inr h) =
        let one : n ≡ h.0 = has_length.one_length (first_stage p) n h.0 l h.1 in
        let a = h.2 in
        let b = h.3 in
        omega (arith, cp, cq, one, a, b)

pub follows : Follows
follows p q end fin =
    record {
      types = λ w x h k.
          let both = spelling_tells.spelled_alike p.r q.r p.tree q.tree h.0 k.0 h.1 k.1 in
          ((λ e. both.0 (sym h.2 ∙ e ∙ k.2)), (λ e. h.2 ∙ both.1 e ∙ sym k.2));
      compared = compared p q end fin;
      first = held p end;
      second = held q fin;
    }

-- of two runs that were played
pub law_of : (p q : Play) → HoldsOf p → HoldsOf q → Law p q
law_of p q h k = follows p q (stands h) (stands k)
  where
    stands : {p : Play} → HoldsOf p → StandsAtEnd p
    stands h = record { typed = h.typed; replies = h.replies; reckoned = h.reckoned }
