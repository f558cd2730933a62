use Rattle.firmware.proofs.Leaving.{rewound_where_open}
use Rattle.firmware.proofs.running.rewind.Goals as goal

pub returns-in-Open : goal.returns-in-Open
returns-in-Open g c =
    rewound_where_open g.S.Store.lists g.S.Store.whole g.S.Store.room g.S.Store.cost c.args.run.now c.in-Open.run'
    c.rewind.new.self c.in-Open.is (c.rewind.ensures.rule, c.rewind.ensures.whole, c.rewind.ensures.cost) c.rewind.result
    c.of_run.result c.of_run.ensures c.rewind.ensures.err c.args.readings.now c.rewind.ensures.answer c.rewind.ensures.ok
