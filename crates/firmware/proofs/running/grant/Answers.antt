use Rattle.firmware.proofs.Leaving.{granted_where_open}
use Rattle.firmware.proofs.running.grant.Goals as goal

pub returns-in-Open : goal.returns-in-Open
returns-in-Open g c =
    granted_where_open g.S.Store.lists g.S.Store.whole g.S.Store.room g.S.Store.cost c.args.run.now c.in-Open.run'
    c.grant.new.self c.in-Open.is (c.grant.ensures.rule, c.grant.ensures.whole, c.grant.ensures.cost) c.grant.result
    c.of_run.result c.of_run.ensures c.grant.ensures.err c.args.steps c.grant.ensures.answer c.grant.ensures.ok
