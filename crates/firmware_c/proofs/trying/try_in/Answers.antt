use Rattle.std.proofs.Common.{refl, sym, subst}
use Rattle.record.specs.declared.received.Received.{Received}
use Rattle.book.specs.Books.{names}
use Rattle.firmware.specs.declared.run_place.RunPlace.{RunPlace}
use Rattle.firmware.specs.Trials.{buffers}
use Rattle.firmware_c.specs.Stores.{Cells, tries}
use Rattle.firmware_c.proofs.trying.try_in.Goals as goal

-- what was taken out of the places is what stood there, and what the trial gives back stands there now
pub returns : goal.returns
returns c =
    let tried : RunPlace Cells → Received → RunPlace Cells → Type 0 = λ run rule next.
    tries c.args.text.now (names c.args.book.now) (buffers c.args.out.now c.args.first.now c.args.second.now c.args.types.now)
    (buffers c.try_text-next.new.out c.try_text-next.new.first c.try_text-next.new.second c.try_text-next.new.types)
    run rule c.args.readings.now c.args.steps next c.try_text-next.result.rule c.try_text-next.result.trial in (
      refl,
      subst (λ (next : RunPlace Cells). tried c.args.run.now c.args.rule.now next) (sym c.replace-3.ensures.after)
          (subst (λ (run : RunPlace Cells). tried run c.args.rule.now c.try_text-next.result.run) c.replace.ensures.value
          (subst (λ (rule : Received). tried c.replace.result rule c.try_text-next.result.run) c.replace-2.ensures.value c.try_text-next.ensures)),
    )
