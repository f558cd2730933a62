use Rattle.std.proofs.Common.{◌≡◌, ◌-◌, Some, arith}
use Rattle.std.proofs.lemmas.Bool.Decides.{nat_tests}
use Rattle.std.proofs.lemmas.List.{get_or_default}
use Rattle.flat.specs.declared.slot.Slot.TheVariants.{Spare}
use Rattle.flat.specs.Spans.{span_of}
use Rattle.flat.proofs.Listed.{spanned}
use Rattle.flat.proofs.flat_store.FlatStore.span.Goals as goal

pub returns-clause-list : goal.returns-clause-list
returns-clause-list g c =
    let slots = c.args.self.now.slots.now in
    let handle = c.args.handle in
    let slot = c.index-self-handle.result in
    let same = get_or_default slots (handle - 1) slot Spare (omega arith) in
    let told : span_of slots c.args.self.now.used handle ≡ Some c.in_ok-length.length =
    grind (arith, nat_tests, same, c.index-self-handle.is, c.in_ok-length.ensures.ending) in
    spanned g.T.Blank.unwritten slots c.args.self.now.used handle (Some c.in_ok-length.length) told
