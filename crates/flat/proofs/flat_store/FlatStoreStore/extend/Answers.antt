use Rattle.std.proofs.Common.{sym, ◌∙◌, arith}
use Rattle.flat.specs.Spans.{span_of}
use Rattle.flat.proofs.Listed.{extends, located_some}
use Rattle.flat.proofs.flat_store.FlatStoreStore.extend.Goals as goal

pub returns-clause-extended : goal.returns-clause-extended
returns-clause-extended g c =
    let slots = c.args.self.now.slots.now in
    let used = c.args.self.now.used in
    let span = c.in_ok-span.span in
    let here = located_some c.args.handle (span_of slots used c.args.handle) span (sym c.span.ensures.span
    ∙ c.in_ok-span.ensures.ok_part) in
    extends g.T.Blank.unwritten slots c.place.new.slots used c.args.handle span.length span.begins c.args.elem
    here.0 c.place.auto.slots (omega arith) (omega (arith, here.1)) c.place.ensures
