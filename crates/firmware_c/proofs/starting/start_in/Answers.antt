use Rattle.std.proofs.Common.{sym, subst}
use Rattle.record.specs.declared.received.Received.{Received}
use Rattle.firmware.specs.declared.run_place.RunPlace.{RunPlace}
use Rattle.firmware_c.specs.Stores.{Cells, started}
use Rattle.firmware_c.proofs.starting.start_in.Goals as goal

-- what was taken out of the places is what stood there, and what start gives back stands there now
pub returns : goal.returns
returns c =
    subst (λ (p : RunPlace Cells). started c.args.run.now c.args.rule.now p c.start-next.result.rule c.start-next.result.reply)
    (sym c.replace-3.ensures.after)
    (subst (λ (p : RunPlace Cells). started p c.args.rule.now c.start-next.result.run c.start-next.result.rule c.start-next.result.reply)
    c.replace.ensures.value
    (subst (λ (rule : Received). started c.replace.result rule c.start-next.result.run c.start-next.result.rule c.start-next.result.reply)
    c.replace-2.ensures.value c.start-next.ensures))
