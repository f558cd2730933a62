use Rattle.std.proofs.Common.{rules, tests}
use Rattle.flat.specs.declared.slot.Slot.TheVariants.{Spare}
use Rattle.store.proofs.Filled.{filled}
use Rattle.flat.proofs.flat_store.FlatStore.new.Goals as goal

pub returns-clause-wiped : goal.returns-clause-wiped
returns-clause-wiped g c = filled Spare _ (λ p x q s. search (rules, tests)) _ _ _ c.fill_with.ensures.len
    c.fill_with.ensures.ran.1
