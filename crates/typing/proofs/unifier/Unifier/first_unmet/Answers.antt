use Rattle.std.proofs.Common.{◌≡◌, sym, refl, ◌∙◌, subst, arith}
use Rattle.calculus.specs.Conditions.{CannotMeet}
use Rattle.record.specs.Reading.{IsTree}
use Rattle.record.proofs.Holding.{some_node}
use Rattle.typing.proofs.Ruling.{solved_can_there, cannot_at_end, first_found}
use Rattle.typing.proofs.unifier.Unifier.first_unmet.Goals as goal

pub overflow_sub-high : goal.overflow_sub-high
overflow_sub-high c =
    let some = some_node c.requires.tree.0 in
    omega (arith, c.requires.tree.1.counted, c.len-high.ensures.value)

pub loop-low-init : goal.loop-low-init
loop-low-init c =
    let some = some_node c.requires.tree.0 in
    let count = c.requires.tree.1.counted in
    let value = c.len-high.ensures.value in
    record {
      same = refl;
      order = omega arith;
      inside = omega arith;
      cannot = λ t tree.
          let counted = tree.counted in
          cannot_at_end _ t _ (omega arith) (subst (CannotMeet _ t) counted (c.requires.unmet t tree));
      can = λ t tree k l. absurd (omega arith);
    }

pub loop-low-preserved-in-Ok : goal.loop-low-preserved-in-Ok
loop-low-preserved-in-Ok c =
    let was = c.loop-low.invariant in
    let here = subst (λ b. IsTree b.now c.requires.tree.0) (sym was.same) c.requires.tree.1 in
    record {
      same = (c.solve_up_to.ensures c.requires.tree.0 here).0 ∙ was.same;
      order = omega (arith, c.loop-low-test.true);
      inside = was.inside;
      cannot = was.cannot;
      can = λ t tree k l. solved_can_there _ _ was.same t _ _ _ (λ there. (c.in-Ok.ensures t there).1) tree k l;
    }

pub returns-clause-first : goal.returns-clause-first
returns-clause-first c = λ t tree.
    let was = c.loop-low.invariant in
    let inside = was.inside in
    let counted = tree.counted in
    let met : c.loop-low.high ≡ c.loop-low.low = omega (arith, c.loop-low-test.false, was.order) in
    first_found _ t c.loop-low.low (omega arith) (subst (CannotMeet _ t) met (was.cannot t tree)) (was.can t tree)
