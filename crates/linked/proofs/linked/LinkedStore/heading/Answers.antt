use Rattle.std.proofs.Common.{◌≡◌, ◌%◌, ◌<◌, ◌≤◌, length, drop, refl, sym, ap, ◌∙◌, arith}
use Rattle.linked.specs.declared.cell.Cell.{Cell}
use Rattle.linked.specs.Walk.{list_of}
use Rattle.linked.proofs.Walks.{walk_short}
use Rattle.linked.proofs.Telling.{some_handle, read_tells, read_cut}
use Rattle.linked.proofs.linked.LinkedStore.heading.Goals as goal
use Rattle.linked.proofs.linked.LinkedStore.heading.Goals.{then-under-eq0, else-under-eq0}

pub overflow_cast-under : goal.overflow_cast-under
overflow_cast-under g c =
    let short = walk_short g.T.Blank.unwritten c.args.self.now.cells.now c.args.handle c.args.handle in
    let made = c.args.self.now.inside in
    omega (arith, short, made, c.length-under.ensures, c.requires)

pub returns : goal.returns
returns g c =
    let blank = g.T.Blank.unwritten in
    let store = c.args.self.now in
    let handle = c.args.handle in
    let under = c.length-under.result in
    let made = store.inside in
    let inside : handle ≤ length store.cells.now = omega (arith, made, c.requires) in
    let second : (c.if-under-eq0.skip ≤ store.made) × (list_of blank store.cells.now c.if-under-eq0.skip ≡ drop
    (under % 8) (list_of blank store.cells.now handle)) =
    elim c.if-under-eq0.branch [
      | then-under-eq0 w ↦ (
        omega (arith, w.skip-is, c.requires),
        ap (λ n. list_of blank store.cells.now n) w.skip-is
            ∙ sym (ap (λ n. drop n (list_of blank store.cells.now handle)) w.if-under-eq0.true),
      )
      | else-under-eq0 w ↦
          let more : 0 < length (list_of blank store.cells.now handle) = omega (
            arith,
            c.length-under.ensures,
            w.if-under-eq0.false,
          ) in
          let some = some_handle blank store.cells.now handle 0 more in
          let cell = w.index-self-handle.result in
          let is = w.skip-is ∙ ap (λ (e : Cell g.row.T.Denot). e.skip) (sym w.index-self-handle.is) in
          let tells = read_tells blank store.cells.now store.told handle cell some inside w.index-self-handle.is in
          let low = tells.far_down in (
            omega (arith, is, low, c.requires),
            ap (λ n. list_of blank store.cells.now n) is
                ∙ read_cut blank store.cells.now store.told handle cell some inside w.index-self-handle.is under
                c.length-under.ensures w.if-under-eq0.false,
          )
    ] in
    record {
      element = refl;
      below = refl;
      tells = record {
        down = c.requires;
        far_down = second.0;
        counted = c.length-under.ensures;
        cut = second.1;
      };
    }
