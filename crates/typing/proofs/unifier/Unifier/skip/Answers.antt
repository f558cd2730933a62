use Rattle.std.proofs.Common.{sym}
use Rattle.typing.proofs.Shortening.{kept_shorter}
use Rattle.typing.proofs.unifier.Unifier.skip.Goals as goal

pub returns-in-Link-clause-kept : goal.returns-in-Link-clause-kept
returns-in-Link-clause-kept c =
    let further = sym c.in-Link.ensures in (
      c.put.ensures.tree,
      kept_shorter _ _ _ _ _ _ c.args.self.now.sound c.requires.inside c.requires.link further _ _
          c.put.ensures.first c.put.ensures.second,
    )
