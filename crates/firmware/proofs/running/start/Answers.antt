use Rattle.std.proofs.Common.{refl, sym, subst}
use Rattle.firmware.specs.Places.{Started}
use Rattle.firmware.specs.declared.run_place.RunPlace.TheVariants.{Open}
use Rattle.firmware.proofs.running.start.Goals as goal

pub returns-in-Closed : goal.returns-in-Closed
returns-in-Closed g c =
    subst (λ p. Started g.S.Store.lists g.S.Store.whole g.S.Store.room g.S.Store.cost p c.args.rule (Open c.start.result) c.new.result c.done.result)
    (sym c.in-Closed.is) (
      c.start.result,
      refl,
      c.start.ensures.rule,
      c.start.ensures.whole,
      c.start.ensures.cost,
      c.start.ensures.begun,
      c.new.ensures,
      c.done.ensures,
    )
