use Rattle.std.proofs.Common.{sym, ◌∙◌, subst}
use Rattle.std.proofs.lemmas.Result.{err_from_is_err_and}
use Rattle.calculus.specs.Conditions.{CannotMeet}
use Rattle.record.specs.Reading.{IsTree}
use Rattle.typing.specs.Ruled.{Reached}
use Rattle.typing.proofs.Ruling.{whole_refused, whole_reached}
use Rattle.typing.proofs.Shortening.{kept_there}
use Rattle.typing.proofs.Walking.{decided_there}
use Rattle.typing.proofs.unifier.Unifier.solve_up_to.Goals as goal

pub returns-in_err-add_tree : goal.returns-in_err-add_tree
returns-in_err-add_tree c = λ t tree.
    let same = c.clear.ensures.tree in
    let here = subst (λ b. IsTree b.now t) (sym same) tree in
    let p = err_from_is_err_and c.from_residual.result c.from_residual.ensures.1 in
    let cannot =
    whole_refused _ t c.args.last _ _ _ _ _ _ _ _ here c.new-store.ensures.cleared.root c.clear.ensures.blank.0
    c.clear.ensures.blank.1 _ c.in_err-add_tree.ensures.walked.1 in (
      c.in_err-add_tree.ensures.walked.0 ∙ same,
      rw p.1 (subst (λ b. CannotMeet b.now.readings t c.args.last) same cannot),
    )

pub returns : goal.returns
returns c = λ t tree.
    let same = c.clear.ensures.tree in
    let here = subst (λ b. IsTree b.now t) (sym same) tree in
    let walked = c.in_ok-add_tree.ensures.walked in
    let shorter = c.shorten_all.ensures in
    let there = shorter.0 ∙ walked.0 in
    let decided = decided_there _ _ there _ _ c.stays_finite.result c.stays_finite.ensures in
    let after = c.shorten_all.new.self in
    let reached =
    whole_reached _ t c.args.last _ _ _ _ _ _ _ _ here c.new-store.ensures.cleared.root c.clear.ensures.blank.0
    c.clear.ensures.blank.1 _ _ c.stays_finite.result walked.1 (kept_there _ _ walked.0 _ _ _ _ shorter.1) decided in (
      there ∙ same,
      subst (λ b. Reached b.now.readings t c.args.last after.first.now after.second.now
          c.stays_finite.result) same reached,
    )
