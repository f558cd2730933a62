use Rattle.std.proofs.Common.{◌∷◌, ◌++◌, length, Ok, sym, refl, ap, ◌∙◌, subst, arith}
use Rattle.std.proofs.lemmas.Result.{err_from_is_err_and}
use Rattle.grammar.specs.declared.Mark.TheVariants.{In, Then, Else, Arrow, Equals, AtMost, Plus, Close}
use Rattle.grammar.specs.Automaton.{is_end}
use Rattle.grammar.specs.Classes.{RefusedAtom, RefusedApp, RefusedSum, RefusedExpr}
use Rattle.grammar.specs.Token.{is}
use Rattle.grammar.specs.Walking.{Unread, Missed, is_name}
use Rattle.grammar.proofs.Binders.{fun_unread, fun_unnamed, fun_unsigned, let_unread, let_unnamed, let_unsigned}
use Rattle.grammar.proofs.Binders.{let_bound_refused, if_unread, if_condition_refused}
use Rattle.grammar.proofs.Walking.{through-++, mark_on, name_on}
use Rattle.text.specs.declared.fault.CompileFault.TheVariants.{Lex}
use Rattle.text.specs.Faults.{number, place}
use Rattle.nodes.specs.Nodes.{Pushed}
use Rattle.text.specs.Parsing.{source, at, Advanced, Passed, Named, ReadsExpr, ReadsSum, ReadsApplication, ReadsAtom}
use Rattle.text.specs.Scopes.{open_names}
use Rattle.text.proofs.Opening.{restored_names}
use Rattle.text.proofs.Readiness.{further, not_back, lies}
use Rattle.text.proofs.Rules.{carried, fun_body_refused, fun_done, let_no_in, let_body_refused, let_done, if_no_then}
use Rattle.text.proofs.Rules.{if_then_refused, if_no_else, if_else_refused, if_done, sum_alone, at_most_unread}
use Rattle.text.proofs.Rules.{at_most_refused, at_most_done, sum_holds, sum_done, plus_unread, plus_refused}
use Rattle.text.proofs.Rules.{sum_again, application_holds, application_done, argument_refused, application_again}
use Rattle.text.proofs.Rules.{open_unread, open_refused, open_missed, open_done, leaf_refused, leaf_unread, leaf_done}
use Rattle.text.proofs.Turns.{ApplicationSoFar, SumSoFar}
use Rattle.text.proofs.parser.Parser.+application_atom_body_comparison_expr_function_if_else_let_in_sum.Goals as goal

pub atom-returns-in_err-advance-clause-reads : goal.atom-returns-in_err-advance-clause-reads
atom-returns-in_err-advance-clause-reads t c =
    let p = c.args.self.now in
    let src = source p in
    let O = open_names c.args.scope.now in
    let m = sym c.if-is.ensures in
    let f = Lex c.in_err-advance.field-0.0 in
    let end = err_from_is_err_and c.from_residual.result c.from_residual.ensures.1 in
    rw (end.1, end.2) (open_unread src O p m (number f) (place f) c.in_err-advance.ensures)

pub atom-returns-in_err-inner-clause-reads : goal.atom-returns-in_err-inner-clause-reads
atom-returns-in_err-inner-clause-reads t c =
    let p = c.args.self.now in
    let src = source p in
    let O = open_names c.args.scope.now in
    let m = sym c.if-is.ensures in
    let q = c.advance.new.self in
    let w = c.in_ok-advance.ensures in
    let f = c.in_err-inner.field-0.0 in
    let end = err_from_is_err_and c.from_residual-in_err-inner.result c.from_residual-in_err-inner.ensures.1 in
    rw (end.1, end.2) (open_refused src O p m q w (number f) (place f)
    (subst (λ k. RefusedExpr k.book (O ++ k.book) k.text (at q) (number f) (place f)) w.2
    c.in_err-inner.ensures.reads))

pub atom-returns-in_err-pass-clause-reads : goal.atom-returns-in_err-pass-clause-reads
atom-returns-in_err-pass-clause-reads t c =
    let p = c.args.self.now in
    let src = source p in
    let O = open_names c.args.scope.now in
    let m = sym c.if-is.ensures in
    let q = c.advance.new.self in
    let w = c.in_ok-advance.ensures in
    let r = c.expr.new.self in
    let e = subst (λ k. ReadsExpr k O q r (Ok c.in_ok-inner.inner)) w.2 c.in_ok-inner.ensures.reads in
    let f = c.in_err-pass.field-0.0 in
    let end = err_from_is_err_and c.from_residual-in_err-pass.result c.from_residual-in_err-pass.ensures.1 in
    rw (end.1, end.2) (open_missed src O p m q w r c.in_ok-inner.inner e (number f) (place f)
    (subst (λ k. Missed (is Close) k.text (at r) (number f) (place f)) e.5 c.in_err-pass.ensures))

pub atom-returns-then-is-clause-reads : goal.atom-returns-then-is-clause-reads
atom-returns-then-is-clause-reads t c =
    let p = c.args.self.now in
    let src = source p in
    let O = open_names c.args.scope.now in
    let m = sym c.if-is.ensures in
    let q = c.advance.new.self in
    let w = c.in_ok-advance.ensures in
    let r = c.expr.new.self in
    let e = subst (λ k. ReadsExpr k O q r (Ok c.in_ok-inner.inner)) w.2 c.in_ok-inner.ensures.reads in
    open_done src O p m q w r c.in_ok-inner.inner e c.pass.new.self
    (subst (λ k. Passed (is Close) k r c.pass.new.self (Ok tt)) e.5 c.in_ok-pass.ensures)

pub atom-returns-in_err-node-clause-reads : goal.atom-returns-in_err-node-clause-reads
atom-returns-in_err-node-clause-reads t c =
    let p = c.args.self.now in
    let src = source p in
    let O = open_names c.args.scope.now in
    let f = c.in_err-node.field-0.0 in
    let end = err_from_is_err_and c.from_residual-in_err-node.result c.from_residual-in_err-node.ensures.1 in
    rw (end.1, end.2) (leaf_refused src O p f c.in_err-node.ensures)

pub atom-returns-in_err-advance-2-clause-reads : goal.atom-returns-in_err-advance-2-clause-reads
atom-returns-in_err-advance-2-clause-reads t c =
    let p = c.args.self.now in
    let src = source p in
    let O = open_names c.args.scope.now in
    let f = Lex c.in_err-advance-2.field-0.0 in
    let end = err_from_is_err_and c.from_residual-in_err-advance-2.result c.from_residual-in_err-advance-2.ensures.1 in
    rw (end.1, end.2) (leaf_unread src O p c.in_ok-node.node c.in_ok-node.ensures (number f)
    (place f) c.in_err-advance-2.ensures)

pub atom-returns-clause-reads : goal.atom-returns-clause-reads
atom-returns-clause-reads t c =
    let p = c.args.self.now in
    let src = source p in
    let O = open_names c.args.scope.now in
    leaf_done src O p c.in_ok-node.node c.in_ok-node.ensures c.advance-2.new.self c.push.new.self c.push.result
    c.in_ok-advance-2.ensures c.push.ensures

pub application-loop-self-init : goal.application-loop-self-init
application-loop-self-init t c = (
  refl,
  application_holds (source c.atom.new.self) (open_names c.atom.new.scope) c.atom.new.self
      c.in_ok-function.function refl,
)

pub application-atom-requires-in-loop-self : goal.application-atom-requires-in-loop-self
application-atom-requires-in-loop-self t c =
    let p = c.args.self.now in
    let src = source p in
    let first = c.atom.new.self in
    let b = c.atom.new.scope in
    let l = c.in_ok-function.function in
    let e = c.in_ok-function.ensures in
    let now = c.loop-self.self in
    let inv = c.loop-self.invariant in
    let sofar = carried (λ k o. ApplicationSoFar k o first l now c.loop-self.function) e.reads.5
    (restored_names c.args.scope.now b e.restored) inv.1 in
    let back = not_back src p refl now (through-++ src.text (at p) (at first) (at now) e.reads.2.0 sofar.0) in (
      omega (arith, c.decreases, back, lies src now sofar.1),
      omega (
        arith,
        c.requires,
        back,
        ap length (inv.0 ∙ e.restored),
      ),
    )

pub application-returns-in_err-argument-clause-reads : goal.application-returns-in_err-argument-clause-reads
application-returns-in_err-argument-clause-reads t c =
    let p = c.args.self.now in
    let src = source p in
    let O = open_names c.args.scope.now in
    let first = c.atom.new.self in
    let b = c.atom.new.scope in
    let l = c.in_ok-function.function in
    let e = c.in_ok-function.ensures in
    let now = c.loop-self.self in
    let inv = c.loop-self.invariant in
    let sofar = carried (λ k o. ApplicationSoFar k o first l now c.loop-self.function) e.reads.5
    (restored_names c.args.scope.now b e.restored) inv.1 in
    let same = restored_names c.args.scope.now c.loop-self.scope (inv.0 ∙ e.restored) in
    let m = sym c.loop-self-test.ensures in
    let f = c.in_err-argument.field-0.0 in
    let end = err_from_is_err_and c.from_residual-in_err-argument.result c.from_residual-in_err-argument.ensures.1 in
    rw (end.1, end.2) (argument_refused src O p first l e.reads now c.loop-self.function sofar m (number f) (place f)
    (carried (λ k o. RefusedAtom k.book (o ++ k.book) k.text (at now) (number f) (place f)) sofar.1 same
    c.in_err-argument.ensures.reads))

pub application-loop-self-preserved : goal.application-loop-self-preserved
application-loop-self-preserved t c =
    let first = c.atom.new.self in
    let b = c.atom.new.scope in
    let now = c.loop-self.self in
    let d = c.loop-self.scope in
    let inv = c.loop-self.invariant in
    let z = c.atom-in-loop-self.new.self in
    let l = c.in_ok-argument.argument in
    let yes = c.in_ok-argument.ensures in
    let reads = carried (λ k o. ReadsAtom k o now z (Ok l)) inv.1.1 (restored_names b d inv.0) yes.reads in (
      yes.restored ∙ inv.0,
      application_again (source first) (open_names b) first now z c.push-function.new.self
          c.in_ok-function.function c.loop-self.function l c.push-function.result inv.1 reads
          (subst (λ n. Pushed z.table c.push-function.new.self n c.push-function.result) c.applied.ensures
          c.push-function.ensures),
    )

pub application-returns-clause-reads : goal.application-returns-clause-reads
application-returns-clause-reads t c =
    let p = c.args.self.now in
    let src = source p in
    let O = open_names c.args.scope.now in
    let first = c.atom.new.self in
    let b = c.atom.new.scope in
    let l = c.in_ok-function.function in
    let e = c.in_ok-function.ensures in
    let now = c.loop-self.self in
    let inv = c.loop-self.invariant in
    let sofar = carried (λ k o. ApplicationSoFar k o first l now c.loop-self.function) e.reads.5
    (restored_names c.args.scope.now b e.restored) inv.1 in
    application_done src O p first l e.reads now c.loop-self.function sofar (sym c.loop-self-test.ensures)

pub sum-loop-self-init : goal.sum-loop-self-init
sum-loop-self-init t c = (
  refl,
  sum_holds (source c.application.new.self) (open_names c.application.new.scope) c.application.new.self
      c.in_ok-left.left refl,
)

pub sum-returns-in_err-advance-clause-reads : goal.sum-returns-in_err-advance-clause-reads
sum-returns-in_err-advance-clause-reads t c =
    let p = c.args.self.now in
    let src = source p in
    let O = open_names c.args.scope.now in
    let first = c.application.new.self in
    let b = c.application.new.scope in
    let l = c.in_ok-left.left in
    let e = c.in_ok-left.ensures in
    let now = c.loop-self.self in
    let inv = c.loop-self.invariant in
    let sofar = carried (λ k o. SumSoFar k o first l now c.loop-self.left) e.reads.5
    (restored_names c.args.scope.now b e.restored) inv.1 in
    let m = sym c.loop-self-test.ensures in
    let f = Lex c.in_err-advance.field-0.0 in
    let end = err_from_is_err_and c.from_residual-in_err-advance.result c.from_residual-in_err-advance.ensures.1 in
    rw (end.1, end.2) (plus_unread src O p first l e.reads now c.loop-self.left sofar m (number f) (place f)
    (subst (λ k. Unread k.text now.current.stop (number f) (place f)) sofar.1 c.in_err-advance.ensures))

pub sum-application-requires-in-loop-self : goal.sum-application-requires-in-loop-self
sum-application-requires-in-loop-self t c =
    let p = c.args.self.now in
    let src = source p in
    let first = c.application.new.self in
    let b = c.application.new.scope in
    let l = c.in_ok-left.left in
    let e = c.in_ok-left.ensures in
    let now = c.loop-self.self in
    let inv = c.loop-self.invariant in
    let sofar = carried (λ k o. SumSoFar k o first l now c.loop-self.left) e.reads.5
    (restored_names c.args.scope.now b e.restored) inv.1 in
    let m = sym c.loop-self-test.ensures in
    let r = c.advance.new.self in
    let w = subst (λ k. Advanced k now r (Ok tt)) sofar.1 c.in_ok-advance.ensures in
    let on = further src now r (mark_on Plus (at now).token m) w.0 in
    let back = not_back src p refl now (through-++ src.text (at p) (at first) (at now) e.reads.2.0.0 sofar.0) in (
      omega (arith, c.decreases, on, back, lies src r w.2),
      omega (
        arith,
        c.requires,
        on,
        back,
        ap length (inv.0 ∙ e.restored),
      ),
    )

pub sum-returns-in_err-right-clause-reads : goal.sum-returns-in_err-right-clause-reads
sum-returns-in_err-right-clause-reads t c =
    let p = c.args.self.now in
    let src = source p in
    let O = open_names c.args.scope.now in
    let first = c.application.new.self in
    let b = c.application.new.scope in
    let l = c.in_ok-left.left in
    let e = c.in_ok-left.ensures in
    let now = c.loop-self.self in
    let inv = c.loop-self.invariant in
    let sofar = carried (λ k o. SumSoFar k o first l now c.loop-self.left) e.reads.5
    (restored_names c.args.scope.now b e.restored) inv.1 in
    let same = restored_names c.args.scope.now c.loop-self.scope (inv.0 ∙ e.restored) in
    let m = sym c.loop-self-test.ensures in
    let r = c.advance.new.self in
    let w = subst (λ k. Advanced k now r (Ok tt)) sofar.1 c.in_ok-advance.ensures in
    let f = c.in_err-right.field-0.0 in
    let end = err_from_is_err_and c.from_residual-in_err-right.result c.from_residual-in_err-right.ensures.1 in
    rw (end.1, end.2) (plus_refused src O p first l e.reads now c.loop-self.left sofar m r w (number f) (place f)
    (carried (λ k o. RefusedApp k.book (o ++ k.book) k.text (at r) (number f) (place f)) w.2 same
    c.in_err-right.ensures.reads))

pub sum-loop-self-smaller : goal.sum-loop-self-smaller
sum-loop-self-smaller t c =
    let p = c.args.self.now in
    let src = source p in
    let first = c.application.new.self in
    let b = c.application.new.scope in
    let l = c.in_ok-left.left in
    let e = c.in_ok-left.ensures in
    let now = c.loop-self.self in
    let inv = c.loop-self.invariant in
    let sofar = carried (λ k o. SumSoFar k o first l now c.loop-self.left) e.reads.5
    (restored_names c.args.scope.now b e.restored) inv.1 in
    let m = sym c.loop-self-test.ensures in
    let r = c.advance.new.self in
    let w = subst (λ k. Advanced k now r (Ok tt)) sofar.1 c.in_ok-advance.ensures in
    let on = further src now r (mark_on Plus (at now).token m) w.0 in
    let z = c.application-in-loop-self.new.self in
    let reads = subst (λ k. ReadsApplication k (open_names c.loop-self.scope) r z (Ok c.in_ok-right.right)) w.2
    c.in_ok-right.ensures.reads in
    omega (arith, on, not_back src r w.2 z reads.2.0.0, lies src now sofar.1, lies src z reads.5)

pub sum-loop-self-preserved : goal.sum-loop-self-preserved
sum-loop-self-preserved t c =
    let first = c.application.new.self in
    let b = c.application.new.scope in
    let now = c.loop-self.self in
    let d = c.loop-self.scope in
    let inv = c.loop-self.invariant in
    let r = c.advance.new.self in
    let z = c.application-in-loop-self.new.self in
    let l = c.in_ok-right.right in
    let yes = c.in_ok-right.ensures in
    let w = subst (λ k. Advanced k now r (Ok tt)) inv.1.1 c.in_ok-advance.ensures in
    let reads = carried (λ k o. ReadsApplication k o r z (Ok l)) w.2 (restored_names b d inv.0) yes.reads in (
      yes.restored ∙ inv.0,
      sum_again (source first) (open_names b) first now r z c.push-left.new.self
          c.in_ok-left.left c.loop-self.left l c.push-left.result inv.1 (sym c.loop-self-test.ensures) w reads
          (subst (λ n. Pushed z.table c.push-left.new.self n c.push-left.result) c.summed.ensures c.push-left.ensures),
    )

pub sum-returns-clause-reads : goal.sum-returns-clause-reads
sum-returns-clause-reads t c =
    let p = c.args.self.now in
    let src = source p in
    let O = open_names c.args.scope.now in
    let first = c.application.new.self in
    let b = c.application.new.scope in
    let l = c.in_ok-left.left in
    let e = c.in_ok-left.ensures in
    let now = c.loop-self.self in
    let inv = c.loop-self.invariant in
    let sofar = carried (λ k o. SumSoFar k o first l now c.loop-self.left) e.reads.5
    (restored_names c.args.scope.now b e.restored) inv.1 in
    sum_done src O p first l e.reads now c.loop-self.left sofar (sym c.loop-self-test.ensures)

pub comparison-returns-then-not-is-clause-reads : goal.comparison-returns-then-not-is-clause-reads
comparison-returns-then-not-is-clause-reads t c =
    let p = c.args.self.now in
    let src = source p in
    let O = open_names c.args.scope.now in
    let q = c.sum.new.self in
    let e = c.in_ok-left.ensures in
    let m = sym c.if-not-is.ensures in
    sum_alone src O p q c.in_ok-left.left e.reads m

pub comparison-returns-in_err-advance-clause-reads : goal.comparison-returns-in_err-advance-clause-reads
comparison-returns-in_err-advance-clause-reads t c =
    let p = c.args.self.now in
    let src = source p in
    let O = open_names c.args.scope.now in
    let q = c.sum.new.self in
    let e = c.in_ok-left.ensures in
    let m = sym c.if-not-is.ensures in
    let f = Lex c.in_err-advance.field-0.0 in
    let end = err_from_is_err_and c.from_residual-in_err-advance.result c.from_residual-in_err-advance.ensures.1 in
    rw (end.1, end.2) (at_most_unread src O p q c.in_ok-left.left e.reads m (number f) (place f)
    (subst (λ k. Unread k.text q.current.stop (number f) (place f)) e.reads.5 c.in_err-advance.ensures))

pub comparison-sum-requires-2 : goal.comparison-sum-requires-2
comparison-sum-requires-2 t c =
    let p = c.args.self.now in
    let src = source p in
    let q = c.sum.new.self in
    let e = c.in_ok-left.ensures in
    let m = sym c.if-not-is.ensures in
    let r = c.advance.new.self in
    let w = subst (λ k. Advanced k q r (Ok tt)) e.reads.5 c.in_ok-advance.ensures in
    let on = further src q r (mark_on AtMost (at q).token m) w.0 in
    let back = not_back src p refl q e.reads.2.0.0 in
    (omega (arith, c.decreases, on, back, lies src r w.2), omega (arith, c.requires, on, back, ap length e.restored))

pub comparison-returns-in_err-right-clause-reads : goal.comparison-returns-in_err-right-clause-reads
comparison-returns-in_err-right-clause-reads t c =
    let p = c.args.self.now in
    let src = source p in
    let O = open_names c.args.scope.now in
    let q = c.sum.new.self in
    let e = c.in_ok-left.ensures in
    let m = sym c.if-not-is.ensures in
    let r = c.advance.new.self in
    let w = subst (λ k. Advanced k q r (Ok tt)) e.reads.5 c.in_ok-advance.ensures in
    let same = restored_names c.args.scope.now c.sum.new.scope e.restored in
    let f = c.in_err-right.field-0.0 in
    let end = err_from_is_err_and c.from_residual-in_err-right.result c.from_residual-in_err-right.ensures.1 in
    rw (end.1, end.2) (at_most_refused src O p q c.in_ok-left.left e.reads m r w (number f) (place f)
    (carried (λ k o. RefusedSum k.book (o ++ k.book) k.text (at r) (number f) (place f)) w.2 same
    c.in_err-right.ensures.reads))

pub comparison-returns-clause-reads : goal.comparison-returns-clause-reads
comparison-returns-clause-reads t c =
    let p = c.args.self.now in
    let src = source p in
    let O = open_names c.args.scope.now in
    let q = c.sum.new.self in
    let e = c.in_ok-left.ensures in
    let m = sym c.if-not-is.ensures in
    let r = c.advance.new.self in
    let w = subst (λ k. Advanced k q r (Ok tt)) e.reads.5 c.in_ok-advance.ensures in
    let same = restored_names c.args.scope.now c.sum.new.scope e.restored in
    let z = c.sum-2.new.self in
    let l = c.in_ok-right.right in
    let reads = carried (λ k o. ReadsSum k o r z (Ok l)) w.2 same c.in_ok-right.ensures.reads in
    at_most_done src O p q c.in_ok-left.left e.reads m r w z c.push.new.self l c.push.result reads c.push.ensures

pub function-returns-in_err-advance-clause-reads : goal.function-returns-in_err-advance-clause-reads
function-returns-in_err-advance-clause-reads t c =
    let p = c.args.self.now in
    let src = source p in
    let O = open_names c.args.scope.now in
    let f = Lex c.in_err-advance.field-0.0 in
    let end = err_from_is_err_and c.from_residual.result c.from_residual.ensures.1 in
    rw (end.1, end.2) (fun_unread src.book (O ++ src.book) src.text (at p) (number f) (place f) c.requires.begins
    c.in_err-advance.ensures)

pub function-returns-in_err-name-clause-reads : goal.function-returns-in_err-name-clause-reads
function-returns-in_err-name-clause-reads t c =
    let p = c.args.self.now in
    let src = source p in
    let O = open_names c.args.scope.now in
    let q = c.advance.new.self in
    let w = c.in_ok-advance.ensures in
    let f = c.in_err-name.field-0.0 in
    let end = err_from_is_err_and c.from_residual-in_err-name.result c.from_residual-in_err-name.ensures.1 in
    rw (end.1, end.2) (fun_unnamed src.book (O ++ src.book) src.text (at p) (at q) (number f)
    (place f) c.requires.begins w.0 (subst (λ k. Missed is_name k.text (at q) (number f) (place f)) w.2
    c.in_err-name.ensures))

pub function-returns-in_err-pass-clause-reads : goal.function-returns-in_err-pass-clause-reads
function-returns-in_err-pass-clause-reads t c =
    let p = c.args.self.now in
    let src = source p in
    let O = open_names c.args.scope.now in
    let q = c.advance.new.self in
    let w = c.in_ok-advance.ensures in
    let r = c.binder.new.self in
    let x = c.in_ok-name.name in
    let n = subst (λ k. Named k q r (Ok x)) w.2 c.in_ok-name.ensures in
    let f = c.in_err-pass.field-0.0 in
    let end = err_from_is_err_and c.from_residual-in_err-pass.result c.from_residual-in_err-pass.ensures.1 in
    rw (end.1, end.2) (fun_unsigned src.book (O ++ src.book) src.text (at p) (at q) (at r) (number f)
    (place f) c.requires.begins w.0 (ap is_name n.0) n.1
    (subst (λ k. Missed (is Arrow) k.text (at r) (number f) (place f)) n.3 c.in_err-pass.ensures))

pub function-returns-in_err-body-clause-reads : goal.function-returns-in_err-body-clause-reads
function-returns-in_err-body-clause-reads t c =
    let p = c.args.self.now in
    let src = source p in
    let O = open_names c.args.scope.now in
    let q = c.advance.new.self in
    let w = c.in_ok-advance.ensures in
    let r = c.binder.new.self in
    let x = c.in_ok-name.name in
    let n = subst (λ k. Named k q r (Ok x)) w.2 c.in_ok-name.ensures in
    let u = c.pass.new.self in
    let y = subst (λ k. Passed (is Arrow) k r u (Ok tt)) n.3 c.in_ok-pass.ensures in
    let f = c.in_err-body.field-0.0 in
    let end = err_from_is_err_and c.from_residual-in_err-body.result c.from_residual-in_err-body.ensures.1 in
    rw (end.1, end.2) (fun_body_refused src O p q r u x c.requires.begins w n y (number f) (place f)
    (subst (λ k. RefusedExpr k.book (x.now ∷ (O ++ k.book)) k.text (at u) (number f) (place f)) y.3
    c.in_err-body.ensures.reads))

pub function-returns-clause-reads : goal.function-returns-clause-reads
function-returns-clause-reads t c =
    let p = c.args.self.now in
    let src = source p in
    let O = open_names c.args.scope.now in
    let q = c.advance.new.self in
    let w = c.in_ok-advance.ensures in
    let r = c.binder.new.self in
    let x = c.in_ok-name.name in
    let n = subst (λ k. Named k q r (Ok x)) w.2 c.in_ok-name.ensures in
    let u = c.pass.new.self in
    let y = subst (λ k. Passed (is Arrow) k r u (Ok tt)) n.3 c.in_ok-pass.ensures in
    let z = c.body.new.self in
    let l = c.in_ok-body.body in
    fun_done src O p q r u x c.requires.begins w n y z c.push.new.self l c.push.result
    (subst (λ k. ReadsExpr k (x.now ∷ O) u z (Ok l)) y.3 c.in_ok-body.ensures.reads) c.push.ensures

pub let_in-returns-in_err-advance-clause-reads : goal.let_in-returns-in_err-advance-clause-reads
let_in-returns-in_err-advance-clause-reads t c =
    let p = c.args.self.now in
    let src = source p in
    let O = open_names c.args.scope.now in
    let f = Lex c.in_err-advance.field-0.0 in
    let end = err_from_is_err_and c.from_residual.result c.from_residual.ensures.1 in
    rw (end.1, end.2) (let_unread src.book (O ++ src.book) src.text (at p) (number f) (place f) c.requires.begins
    c.in_err-advance.ensures)

pub let_in-returns-in_err-name-clause-reads : goal.let_in-returns-in_err-name-clause-reads
let_in-returns-in_err-name-clause-reads t c =
    let p = c.args.self.now in
    let src = source p in
    let O = open_names c.args.scope.now in
    let q = c.advance.new.self in
    let w = c.in_ok-advance.ensures in
    let f = c.in_err-name.field-0.0 in
    let end = err_from_is_err_and c.from_residual-in_err-name.result c.from_residual-in_err-name.ensures.1 in
    rw (end.1, end.2) (let_unnamed src.book (O ++ src.book) src.text (at p) (at q) (number f)
    (place f) c.requires.begins w.0 (subst (λ k. Missed is_name k.text (at q) (number f) (place f)) w.2
    c.in_err-name.ensures))

pub let_in-returns-in_err-pass-clause-reads : goal.let_in-returns-in_err-pass-clause-reads
let_in-returns-in_err-pass-clause-reads t c =
    let p = c.args.self.now in
    let src = source p in
    let O = open_names c.args.scope.now in
    let q = c.advance.new.self in
    let w = c.in_ok-advance.ensures in
    let r = c.binder.new.self in
    let x = c.in_ok-name.name in
    let n = subst (λ k. Named k q r (Ok x)) w.2 c.in_ok-name.ensures in
    let f = c.in_err-pass.field-0.0 in
    let end = err_from_is_err_and c.from_residual-in_err-pass.result c.from_residual-in_err-pass.ensures.1 in
    rw (end.1, end.2) (let_unsigned src.book (O ++ src.book) src.text (at p) (at q) (at r) (number f)
    (place f) c.requires.begins w.0 (ap is_name n.0) n.1 (subst (λ k. Missed (is Equals) k.text (at r) (number f)
    (place f)) n.3 c.in_err-pass.ensures))

pub let_in-returns-in_err-bound-clause-reads : goal.let_in-returns-in_err-bound-clause-reads
let_in-returns-in_err-bound-clause-reads t c =
    let p = c.args.self.now in
    let src = source p in
    let O = open_names c.args.scope.now in
    let q = c.advance.new.self in
    let w = c.in_ok-advance.ensures in
    let r = c.binder.new.self in
    let x = c.in_ok-name.name in
    let n = subst (λ k. Named k q r (Ok x)) w.2 c.in_ok-name.ensures in
    let u = c.pass.new.self in
    let y = subst (λ k. Passed (is Equals) k r u (Ok tt)) n.3 c.in_ok-pass.ensures in
    let f = c.in_err-bound.field-0.0 in
    let end = err_from_is_err_and c.from_residual-in_err-bound.result c.from_residual-in_err-bound.ensures.1 in
    rw (end.1, end.2) (let_bound_refused src.book (O ++ src.book) src.text (at p) (at q) (at r)
    (at u) c.requires.begins w.0 (ap is_name n.0) n.1 y.0 y.1 (number f) (place f)
    (subst (λ k. RefusedExpr k.book (O ++ k.book) k.text (at u) (number f) (place f)) y.3
    c.in_err-bound.ensures.reads))

pub let_in-returns-in_err-pass-2-clause-reads : goal.let_in-returns-in_err-pass-2-clause-reads
let_in-returns-in_err-pass-2-clause-reads t c =
    let p = c.args.self.now in
    let src = source p in
    let O = open_names c.args.scope.now in
    let q = c.advance.new.self in
    let w = c.in_ok-advance.ensures in
    let r = c.binder.new.self in
    let x = c.in_ok-name.name in
    let n = subst (λ k. Named k q r (Ok x)) w.2 c.in_ok-name.ensures in
    let u = c.pass.new.self in
    let y = subst (λ k. Passed (is Equals) k r u (Ok tt)) n.3 c.in_ok-pass.ensures in
    let z = c.expr.new.self in
    let l = c.in_ok-bound.bound in
    let e = subst (λ k. ReadsExpr k O u z (Ok l)) y.3 c.in_ok-bound.ensures.reads in
    let f = c.in_err-pass-2.field-0.0 in
    let end = err_from_is_err_and c.from_residual-in_err-pass-2.result c.from_residual-in_err-pass-2.ensures.1 in
    rw (end.1, end.2) (let_no_in src O p q r u x c.requires.begins w n y z l e (number f) (place f)
    (subst (λ k. Missed (is In) k.text (at z) (number f) (place f)) e.5 c.in_err-pass-2.ensures))

pub let_in-body-requires : goal.let_in-body-requires
let_in-body-requires t c =
    let p = c.args.self.now in
    let src = source p in
    let O = open_names c.args.scope.now in
    let q = c.advance.new.self in
    let w = c.in_ok-advance.ensures in
    let r = c.binder.new.self in
    let x = c.in_ok-name.name in
    let n = subst (λ k. Named k q r (Ok x)) w.2 c.in_ok-name.ensures in
    let u = c.pass.new.self in
    let y = subst (λ k. Passed (is Equals) k r u (Ok tt)) n.3 c.in_ok-pass.ensures in
    let z = c.expr.new.self in
    let l = c.in_ok-bound.bound in
    let e = subst (λ k. ReadsExpr k O u z (Ok l)) y.3 c.in_ok-bound.ensures.reads in
    let v = c.pass-2.new.self in
    let o = subst (λ k. Passed (is In) k z v (Ok tt)) e.5 c.in_ok-pass-2.ensures in
    let on₁ = further src p q (ap is_end c.requires.begins) w.0 in
    let on₂ = further src q r (name_on (at q).token (ap is_name n.0)) n.1 in
    let on₃ = further src r u (mark_on Equals (at r).token y.0) y.1 in
    let on₄ = not_back src u y.3 z e.2.0 in
    let on₅ = further src z v (mark_on In (at z).token o.0) o.1 in (
      omega (arith, c.decreases, on₁, on₂, on₃, on₄, on₅, lies src v o.3),
      omega (
        arith,
        c.requires.room,
        ap length c.in_ok-bound.ensures.restored,
        on₁,
        on₂,
        on₃,
        on₄,
        on₅,
      ),
    )

pub let_in-returns-in_err-body-clause-reads : goal.let_in-returns-in_err-body-clause-reads
let_in-returns-in_err-body-clause-reads t c =
    let p = c.args.self.now in
    let src = source p in
    let O = open_names c.args.scope.now in
    let q = c.advance.new.self in
    let w = c.in_ok-advance.ensures in
    let r = c.binder.new.self in
    let x = c.in_ok-name.name in
    let n = subst (λ k. Named k q r (Ok x)) w.2 c.in_ok-name.ensures in
    let u = c.pass.new.self in
    let y = subst (λ k. Passed (is Equals) k r u (Ok tt)) n.3 c.in_ok-pass.ensures in
    let z = c.expr.new.self in
    let b = c.expr.new.scope in
    let l = c.in_ok-bound.bound in
    let e = subst (λ k. ReadsExpr k O u z (Ok l)) y.3 c.in_ok-bound.ensures.reads in
    let v = c.pass-2.new.self in
    let o = subst (λ k. Passed (is In) k z v (Ok tt)) e.5 c.in_ok-pass-2.ensures in
    let same = restored_names c.args.scope.now b c.in_ok-bound.ensures.restored in
    let f = c.in_err-body.field-0.0 in
    let end = err_from_is_err_and c.from_residual-in_err-body.result c.from_residual-in_err-body.ensures.1 in
    rw (end.1, end.2) (let_body_refused src O p q r u x c.requires.begins w n y z l e v o (number f) (place f)
    (carried (λ k o. RefusedExpr k.book (x.now ∷ (o ++ k.book)) k.text (at v) (number f) (place f)) o.3 same
    c.in_err-body.ensures.reads))

pub let_in-returns-clause-reads : goal.let_in-returns-clause-reads
let_in-returns-clause-reads t c =
    let p = c.args.self.now in
    let src = source p in
    let O = open_names c.args.scope.now in
    let q = c.advance.new.self in
    let w = c.in_ok-advance.ensures in
    let r = c.binder.new.self in
    let x = c.in_ok-name.name in
    let n = subst (λ k. Named k q r (Ok x)) w.2 c.in_ok-name.ensures in
    let u = c.pass.new.self in
    let y = subst (λ k. Passed (is Equals) k r u (Ok tt)) n.3 c.in_ok-pass.ensures in
    let z = c.expr.new.self in
    let b = c.expr.new.scope in
    let l = c.in_ok-bound.bound in
    let e = subst (λ k. ReadsExpr k O u z (Ok l)) y.3 c.in_ok-bound.ensures.reads in
    let v = c.pass-2.new.self in
    let o = subst (λ k. Passed (is In) k z v (Ok tt)) e.5 c.in_ok-pass-2.ensures in
    let same = restored_names c.args.scope.now b c.in_ok-bound.ensures.restored in
    let z' = c.body.new.self in
    let l' = c.in_ok-body.body in
    let reads = carried (λ k o. ReadsExpr k (x.now ∷ o) v z' (Ok l')) o.3 same c.in_ok-body.ensures.reads in
    let_done src O p q r u x c.requires.begins w n y z l e v o z' c.push.new.self l' c.push.result reads c.push.ensures

pub if_else-returns-in_err-advance-clause-reads : goal.if_else-returns-in_err-advance-clause-reads
if_else-returns-in_err-advance-clause-reads t c =
    let p = c.args.self.now in
    let src = source p in
    let O = open_names c.args.scope.now in
    let f = Lex c.in_err-advance.field-0.0 in
    let end = err_from_is_err_and c.from_residual.result c.from_residual.ensures.1 in
    rw (end.1, end.2) (if_unread src.book (O ++ src.book) src.text (at p) (number f) (place f) c.requires.begins
    c.in_err-advance.ensures)

pub if_else-returns-in_err-condition-clause-reads : goal.if_else-returns-in_err-condition-clause-reads
if_else-returns-in_err-condition-clause-reads t c =
    let p = c.args.self.now in
    let src = source p in
    let O = open_names c.args.scope.now in
    let q = c.advance.new.self in
    let w = c.in_ok-advance.ensures in
    let f = c.in_err-condition.field-0.0 in
    let end = err_from_is_err_and c.from_residual-in_err-condition.result c.from_residual-in_err-condition.ensures.1 in
    rw (end.1, end.2) (if_condition_refused src.book (O ++ src.book) src.text (at p) (at q) c.requires.begins w.0
    (number f) (place f) (subst (λ k. RefusedExpr k.book (O ++ k.book) k.text (at q) (number f) (place f)) w.2
    c.in_err-condition.ensures.reads))

pub if_else-returns-in_err-pass-clause-reads : goal.if_else-returns-in_err-pass-clause-reads
if_else-returns-in_err-pass-clause-reads t c =
    let p = c.args.self.now in
    let src = source p in
    let O = open_names c.args.scope.now in
    let q = c.advance.new.self in
    let w = c.in_ok-advance.ensures in
    let r = c.expr.new.self in
    let l = c.in_ok-condition.condition in
    let e = subst (λ k. ReadsExpr k O q r (Ok l)) w.2 c.in_ok-condition.ensures.reads in
    let f = c.in_err-pass.field-0.0 in
    let end = err_from_is_err_and c.from_residual-in_err-pass.result c.from_residual-in_err-pass.ensures.1 in
    rw (end.1, end.2) (if_no_then src O p q c.requires.begins w r l e (number f) (place f)
    (subst (λ k. Missed (is Then) k.text (at r) (number f) (place f)) e.5 c.in_err-pass.ensures))

pub if_else-expr-requires-2 : goal.if_else-expr-requires-2
if_else-expr-requires-2 t c =
    let p = c.args.self.now in
    let src = source p in
    let O = open_names c.args.scope.now in
    let q = c.advance.new.self in
    let w = c.in_ok-advance.ensures in
    let r = c.expr.new.self in
    let l = c.in_ok-condition.condition in
    let e = subst (λ k. ReadsExpr k O q r (Ok l)) w.2 c.in_ok-condition.ensures.reads in
    let u = c.pass.new.self in
    let o = subst (λ k. Passed (is Then) k r u (Ok tt)) e.5 c.in_ok-pass.ensures in
    let on₁ = further src p q (ap is_end c.requires.begins) w.0 in
    let on₂ = not_back src q w.2 r e.2.0 in
    let on₃ = further src r u (mark_on Then (at r).token o.0) o.1 in (
      omega (arith, c.decreases, on₁, on₂, on₃, lies src u o.3),
      omega (
        arith,
        c.requires.room,
        ap length c.in_ok-condition.ensures.restored,
        on₁,
        on₂,
        on₃,
      ),
    )

pub if_else-returns-in_err-then-clause-reads : goal.if_else-returns-in_err-then-clause-reads
if_else-returns-in_err-then-clause-reads t c =
    let p = c.args.self.now in
    let src = source p in
    let O = open_names c.args.scope.now in
    let q = c.advance.new.self in
    let w = c.in_ok-advance.ensures in
    let r = c.expr.new.self in
    let b = c.expr.new.scope in
    let l = c.in_ok-condition.condition in
    let e = subst (λ k. ReadsExpr k O q r (Ok l)) w.2 c.in_ok-condition.ensures.reads in
    let u = c.pass.new.self in
    let o = subst (λ k. Passed (is Then) k r u (Ok tt)) e.5 c.in_ok-pass.ensures in
    let same = restored_names c.args.scope.now b c.in_ok-condition.ensures.restored in
    let f = c.in_err-then.field-0.0 in
    let end = err_from_is_err_and c.from_residual-in_err-then.result c.from_residual-in_err-then.ensures.1 in
    rw (end.1, end.2) (if_then_refused src O p q c.requires.begins w r l e u o (number f) (place f)
    (carried (λ k o. RefusedExpr k.book (o ++ k.book) k.text (at u) (number f) (place f)) o.3 same
    c.in_err-then.ensures.reads))

pub if_else-returns-in_err-pass-2-clause-reads : goal.if_else-returns-in_err-pass-2-clause-reads
if_else-returns-in_err-pass-2-clause-reads t c =
    let p = c.args.self.now in
    let src = source p in
    let O = open_names c.args.scope.now in
    let q = c.advance.new.self in
    let w = c.in_ok-advance.ensures in
    let r = c.expr.new.self in
    let b = c.expr.new.scope in
    let l = c.in_ok-condition.condition in
    let e = subst (λ k. ReadsExpr k O q r (Ok l)) w.2 c.in_ok-condition.ensures.reads in
    let u = c.pass.new.self in
    let o = subst (λ k. Passed (is Then) k r u (Ok tt)) e.5 c.in_ok-pass.ensures in
    let same = restored_names c.args.scope.now b c.in_ok-condition.ensures.restored in
    let z = c.expr-2.new.self in
    let l' = c.in_ok-then.then in
    let g = carried (λ k o. ReadsExpr k o u z (Ok l')) o.3 same c.in_ok-then.ensures.reads in
    let f = c.in_err-pass-2.field-0.0 in
    let end = err_from_is_err_and c.from_residual-in_err-pass-2.result c.from_residual-in_err-pass-2.ensures.1 in
    rw (end.1, end.2) (if_no_else src O p q c.requires.begins w r l e u o z l' g (number f) (place f)
    (subst (λ k. Missed (is Else) k.text (at z) (number f) (place f)) g.5 c.in_err-pass-2.ensures))

pub if_else-expr-requires-3 : goal.if_else-expr-requires-3
if_else-expr-requires-3 t c =
    let p = c.args.self.now in
    let src = source p in
    let O = open_names c.args.scope.now in
    let q = c.advance.new.self in
    let w = c.in_ok-advance.ensures in
    let r = c.expr.new.self in
    let b = c.expr.new.scope in
    let l = c.in_ok-condition.condition in
    let e = subst (λ k. ReadsExpr k O q r (Ok l)) w.2 c.in_ok-condition.ensures.reads in
    let u = c.pass.new.self in
    let o = subst (λ k. Passed (is Then) k r u (Ok tt)) e.5 c.in_ok-pass.ensures in
    let same = restored_names c.args.scope.now b c.in_ok-condition.ensures.restored in
    let z = c.expr-2.new.self in
    let l' = c.in_ok-then.then in
    let g = carried (λ k o. ReadsExpr k o u z (Ok l')) o.3 same c.in_ok-then.ensures.reads in
    let v = c.pass-2.new.self in
    let o' = subst (λ k. Passed (is Else) k z v (Ok tt)) g.5 c.in_ok-pass-2.ensures in
    let on₁ = further src p q (ap is_end c.requires.begins) w.0 in
    let on₂ = not_back src q w.2 r e.2.0 in
    let on₃ = further src r u (mark_on Then (at r).token o.0) o.1 in
    let on₄ = not_back src u o.3 z g.2.0 in
    let on₅ = further src z v (mark_on Else (at z).token o'.0) o'.1 in (
      omega (arith, c.decreases, on₁, on₂, on₃, on₄, on₅, lies src v o'.3),
      omega (
        arith,
        c.requires.room,
        ap length (c.in_ok-then.ensures.restored ∙ c.in_ok-condition.ensures.restored),
        on₁,
        on₂,
        on₃,
        on₄,
        on₅,
      ),
    )

pub if_else-returns-in_err-otherwise-clause-reads : goal.if_else-returns-in_err-otherwise-clause-reads
if_else-returns-in_err-otherwise-clause-reads t c =
    let p = c.args.self.now in
    let src = source p in
    let O = open_names c.args.scope.now in
    let q = c.advance.new.self in
    let w = c.in_ok-advance.ensures in
    let r = c.expr.new.self in
    let b = c.expr.new.scope in
    let l = c.in_ok-condition.condition in
    let e = subst (λ k. ReadsExpr k O q r (Ok l)) w.2 c.in_ok-condition.ensures.reads in
    let u = c.pass.new.self in
    let o = subst (λ k. Passed (is Then) k r u (Ok tt)) e.5 c.in_ok-pass.ensures in
    let same = restored_names c.args.scope.now b c.in_ok-condition.ensures.restored in
    let z = c.expr-2.new.self in
    let d = c.expr-2.new.scope in
    let l' = c.in_ok-then.then in
    let g = carried (λ k o. ReadsExpr k o u z (Ok l')) o.3 same c.in_ok-then.ensures.reads in
    let v = c.pass-2.new.self in
    let o' = subst (λ k. Passed (is Else) k z v (Ok tt)) g.5 c.in_ok-pass-2.ensures in
    let same' = restored_names c.args.scope.now d (c.in_ok-then.ensures.restored ∙ c.in_ok-condition.ensures.restored)
    in
    let f = c.in_err-otherwise.field-0.0 in
    let end = err_from_is_err_and c.from_residual-in_err-otherwise.result c.from_residual-in_err-otherwise.ensures.1 in
    rw (end.1, end.2) (if_else_refused src O p q c.requires.begins w r l e u o z l' g v o' (number f) (place f)
    (carried (λ k o. RefusedExpr k.book (o ++ k.book) k.text (at v) (number f) (place f)) o'.3 same'
    c.in_err-otherwise.ensures.reads))

pub if_else-returns-clause-reads : goal.if_else-returns-clause-reads
if_else-returns-clause-reads t c =
    let p = c.args.self.now in
    let src = source p in
    let O = open_names c.args.scope.now in
    let q = c.advance.new.self in
    let w = c.in_ok-advance.ensures in
    let r = c.expr.new.self in
    let b = c.expr.new.scope in
    let l = c.in_ok-condition.condition in
    let e = subst (λ k. ReadsExpr k O q r (Ok l)) w.2 c.in_ok-condition.ensures.reads in
    let u = c.pass.new.self in
    let o = subst (λ k. Passed (is Then) k r u (Ok tt)) e.5 c.in_ok-pass.ensures in
    let same = restored_names c.args.scope.now b c.in_ok-condition.ensures.restored in
    let z = c.expr-2.new.self in
    let d = c.expr-2.new.scope in
    let l' = c.in_ok-then.then in
    let g = carried (λ k o. ReadsExpr k o u z (Ok l')) o.3 same c.in_ok-then.ensures.reads in
    let v = c.pass-2.new.self in
    let o' = subst (λ k. Passed (is Else) k z v (Ok tt)) g.5 c.in_ok-pass-2.ensures in
    let same' = restored_names c.args.scope.now d (c.in_ok-then.ensures.restored ∙ c.in_ok-condition.ensures.restored)
    in
    let z' = c.expr-3.new.self in
    let l'' = c.in_ok-otherwise.otherwise in
    let h = carried (λ k o. ReadsExpr k o v z' (Ok l'')) o'.3 same' c.in_ok-otherwise.ensures.reads in
    if_done src O p q c.requires.begins w r l e u o z l' g v o' z' c.push.new.self l'' c.push.result h c.push.ensures
