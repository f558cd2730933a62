use Rattle.std.proofs.Common.{◌-◌, sym, ap, ◌∙◌, subst}
use Rattle.machine.specs.declared.operation.Operation.TheVariants.{SumLeft}
use Rattle.machine.specs.Opens.{IsReady}
use Rattle.machine.specs.Running.{state_of}
use Rattle.machine.proofs.Telling.{told, sum_told, on_top}
use Rattle.machine.proofs.steps.ahead.Goals as goal

pub returns-in-SumLeft : goal.returns-in-SumLeft
returns-in-SumLeft c rule lists w r =
    ap state_of c.sum_ahead.ensures ∙
    sum_told rule lists c.args.table.now.ops (c.args.table.now.depth - 1) c.in-SumLeft.node c.in-SumLeft.right
    c.args.value w
    (on_top rule lists c.args.table.now (SumLeft c.in-SumLeft.node c.in-SumLeft.right) c.args.value w
    c.in-SumLeft.ensures r)

pub returns-in_default : goal.returns-in_default
returns-in_default c rule lists w r =
    sym (told rule lists c.args.table.now.ops (c.args.table.now.depth - 1) c.top.result c.args.value w
    (subst IsReady (sym c.top.ensures) r.ready) c.in_default.not-SumLeft
    (on_top rule lists c.args.table.now c.top.result c.args.value w c.top.ensures r))
