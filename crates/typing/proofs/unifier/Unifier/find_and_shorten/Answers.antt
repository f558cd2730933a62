use Rattle.std.proofs.Common.{◌∙◌}
use Rattle.typing.proofs.Shortening.{kept_later, kept_there, skipped, found_here}
use Rattle.typing.proofs.unifier.Unifier.find_and_shorten.Goals as goal

pub loop-next-preserved : goal.loop-next-preserved
loop-next-preserved c =
    let was = c.loop-next.invariant in
    let skip = c.skip-at.ensures.kept in
    let next = skipped _ _ _ _ _ _ _ _ (kept_there _ _ was.kept.0 _ _ _ _ skip.1) was.inside was.same
    c.skip-at.ensures.link in
    record {
      kept = (skip.0 ∙ was.kept.0, kept_later _ _ was.kept.0 _ _ _ _ _ _ was.kept.1 skip.1);
      inside =
          next.1;
      same = next.2;
    }

pub returns : goal.returns
returns c =
    let was = c.loop-next.invariant in
    record {
      kept = was.kept;
      stands = found_here _ _ was.kept.0 _ _ _ _ was.inside (λ z e. c.in_default.not-Link z (c.shape.ensures ∙ e))
          was.same;
    }
