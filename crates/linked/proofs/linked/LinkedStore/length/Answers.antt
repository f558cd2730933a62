use Rattle.std.proofs.Common.{sym, ap, ◌+◌, ◌∙◌, ◌<◌, ◌≤◌, length, arith}
use Rattle.linked.specs.declared.cell.Cell.{Cell}
use Rattle.linked.proofs.Telling.{read_length, read_low}
use Rattle.linked.proofs.linked.LinkedStore.length.Goals as goal

pub returns : goal.returns
returns g c =
    let cells = c.args.self.now.cells.now in
    let cell = c.index-self-handle.result in
    let made = c.args.self.now.inside in
    let some : 0 < c.args.handle = omega (arith, c.if-handle-eq0.false) in
    let inside : c.args.handle ≤ length cells = omega (arith, made, c.requires) in
    let long = read_length g.T.Blank.unwritten cells c.args.self.now.told c.args.handle cell some inside
    c.index-self-handle.is in
    ap (λ (e : Cell g.row.T.Denot). e.under + 1) (sym c.index-self-handle.is) ∙ long

pub overflow_cast-result : goal.overflow_cast-result
overflow_cast-result g c =
    let cells = c.args.self.now.cells.now in
    let cell = c.index-self-handle.result in
    let made = c.args.self.now.inside in
    let some : 0 < c.args.handle = omega (arith, c.if-handle-eq0.false) in
    let inside : c.args.handle ≤ length cells = omega (arith, made, c.requires) in
    let low = read_low g.T.Blank.unwritten cells c.args.self.now.told c.args.handle cell some inside
    c.index-self-handle.is in
    let same = ap (λ (e : Cell g.row.T.Denot). e.under) c.index-self-handle.is in
    let fits = c.ranges.handle.fits in
    omega (arith, low, same, fits)

pub overflow_add-result : goal.overflow_add-result
overflow_add-result g c =
    let cells = c.args.self.now.cells.now in
    let cell = c.index-self-handle.result in
    let made = c.args.self.now.inside in
    let some : 0 < c.args.handle = omega (arith, c.if-handle-eq0.false) in
    let inside : c.args.handle ≤ length cells = omega (arith, made, c.requires) in
    let low = read_low g.T.Blank.unwritten cells c.args.self.now.told c.args.handle cell some inside
    c.index-self-handle.is in
    let same = ap (λ (e : Cell g.row.T.Denot). e.under) c.index-self-handle.is in
    let fits = c.ranges.handle.fits in
    omega (arith, low, same, fits)
