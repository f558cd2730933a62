use Rattle.std.proofs.Common.{refl, sym, subst}
use Rattle.firmware.specs.declared.run_place.RunPlace.TheVariants.{Closed}
use Rattle.book.specs.Books.{names}
use Rattle.firmware.specs.Trials.{TrialLeft, buffers}
use Rattle.firmware.proofs.trying.try_text.Goals as goal

pub returns-in-Closed : goal.returns-in-Closed
returns-in-Closed g c =
    subst
    (λ place. TrialLeft g.S.Store.lists g.S.Store.whole g.S.Store.room g.S.Store.cost c.args.text.now (names c.args.book.now)
    (buffers c.args.out.now c.args.first.now c.args.second.now c.args.types.now) (buffers c.trial-place.new.out c.trial-place.new.first c.trial-place.new.second c.trial-place.new.types)
    place c.args.rule c.args.readings.now c.args.steps (Closed c.trial-place.result.store) c.trial-place.result.place c.of.result)
    (sym c.in-Closed.is) (
      c.trial-place.result.store,
      c.trial-place.result.result,
      refl,
      record {
        text = c.trial-place.ensures.text;
        record_told = c.trial-place.ensures.rule;
        run = c.trial-place.ensures.run;
        report = c.trial-place.ensures.report;
        out_left = c.trial-place.ensures.out_left;
        first_left = c.trial-place.ensures.first_left;
        second_left = c.trial-place.ensures.second_left;
        types_left = c.trial-place.ensures.types_left;
        rule_left = c.trial-place.ensures.place_left;
        store_kept = c.trial-place.ensures.store_kept;
        store_left = c.trial-place.ensures.store_left;
        whole_kept = c.trial-place.ensures.whole;
        cost_kept = c.trial-place.ensures.cost;
      },
      c.of.ensures,
    )
