use Rattle.std.proofs.Common.{[]}
use Rattle.std.proofs.lemmas.Result.{err_from_is_err_and}
use Rattle.record.proofs.Receiving.{Starts, refused_in_tree, goes_on_behind, ends_behind}
use Rattle.record.proofs.receive.receive.Goals as goal

pub returns-in_err-tree : goal.returns-in_err-tree
returns-in_err-tree c =
    let p = err_from_is_err_and c.from_residual-in_err-tree.result c.from_residual-in_err-tree.ensures.1 in
    let starts : Starts _ c.new-reader.result = record {
      bytes = c.new-reader.ensures.bytes;
      place =
          c.new-reader.ensures.place;
      nodes = c.new-reader.ensures.empty;
    } in
    rw (p.1, p.2) (refused_in_tree _ _ _ _ c.new-reader.result c.in_ok-readings.ensures starts
    (c.in_err-tree.ensures []))

pub returns-then-end-bytes : goal.returns-then-end-bytes
returns-then-end-bytes c =
    let g = c.in_ok-tree.ensures in
    let starts : Starts _ c.new-reader.result = record {
      bytes = c.new-reader.ensures.bytes;
      place =
          c.new-reader.ensures.place;
      nodes = c.new-reader.ensures.empty;
    } in
    goes_on_behind _ _ c.new-reader.result c.tree.new.self g.1 c.in_ok-readings.ensures starts g.0 g.2
    c.if-end-bytes.true

pub returns : goal.returns
returns c =
    let g = c.in_ok-tree.ensures in
    let starts : Starts _ c.new-reader.result = record {
      bytes = c.new-reader.ensures.bytes;
      place =
          c.new-reader.ensures.place;
      nodes = c.new-reader.ensures.empty;
    } in
    let r = ends_behind _ _ c.new-reader.result c.tree.new.self g.1 c.in_ok-readings.ensures starts g.0 g.2
    c.if-end-bytes.false in
    (g.1, r.0, r.1)
