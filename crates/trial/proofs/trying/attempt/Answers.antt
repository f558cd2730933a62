use Rattle.std.proofs.Common.{sym}
use Rattle.trial.proofs.Standing.{goes_its_course}
use Rattle.trial.proofs.trying.attempt.Goals as goal

pub returns-in_err-grant_where_it_waits-clause-stands : goal.returns-in_err-grant_where_it_waits-clause-stands
returns-in_err-grant_where_it_waits-clause-stands g c t at =
    goes_its_course g.S.Store.lists g.S.Store.whole g.S.Store.room g.S.Store.cost c.args.run.now c.rewind.new.self
    c.grant_where_it_waits.new.run t c.args.readings.now c.args.steps c.grant_where_it_waits.result
    c.rewind.ensures.whole
    c.rewind.ensures.cost (sym c.in_ok-rewind.ensures.answer) (c.in_ok-rewind.ensures.ok t at.rule.0)
    c.grant_where_it_waits.ensures.answer (λ h. c.grant_where_it_waits.ensures.stands t c.args.readings.now 0 h)

pub returns-clause-stands : goal.returns-clause-stands
returns-clause-stands g c t at =
    goes_its_course g.S.Store.lists g.S.Store.whole g.S.Store.room g.S.Store.cost c.args.run.now c.rewind.new.self
    c.grant_where_it_waits.new.run t c.args.readings.now c.args.steps c.grant_where_it_waits.result
    c.rewind.ensures.whole
    c.rewind.ensures.cost (sym c.in_ok-rewind.ensures.answer) (c.in_ok-rewind.ensures.ok t at.rule.0)
    c.grant_where_it_waits.ensures.answer (λ h. c.grant_where_it_waits.ensures.stands t c.args.readings.now 0 h)
