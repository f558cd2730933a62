use Rattle.std.proofs.Common.{sym, ◌∙◌, arith}
use Rattle.flat.proofs.Listed.{found}
use Rattle.flat.proofs.flat_store.FlatStoreStore.look.Goals as goal

pub returns : goal.returns
returns g c =
    let inside = rw c.in_ok-begins.ensures.ok_part at c.span.ensures.inside in
    rw c.element.ensures
    (found g.T.Blank.unwritten c.args.self.now.slots.now c.args.self.now.used c.args.handle c.args.index
    c.in_ok-begins.field-0 c.index-self-begins.result
    (sym c.span.ensures.span ∙ c.in_ok-begins.ensures.ok_part) (omega arith) (omega (arith, inside)))
