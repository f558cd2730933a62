use Rattle.std.proofs.Common.{◌∙◌, arith}
use Rattle.typing.proofs.Shortening.{kept_later}
use Rattle.typing.proofs.unifier.Unifier.shorten_all.Goals as goal

pub loop-place-preserved-in-Link : goal.loop-place-preserved-in-Link
loop-place-preserved-in-Link c =
    let was = c.loop-place.invariant in
    let skip = c.skip.ensures.kept in
    record {
      kept = (skip.0 ∙ was.kept.0, kept_later _ _ was.kept.0 _ _ _ _ _ _ was.kept.1 skip.1);
      inside =
          omega (arith, was.inside);
    }
